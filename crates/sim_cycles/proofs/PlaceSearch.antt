-- The place of an operation is found by binary search.
use Rattle.std.proofs.Common.{ℕ, ◌<◌, ◌≤◌, ◌≡◌, ◌⊎◌, inl, inr, Bool, true, false, List, length, get_or, Contains, sym, ap, ap₂, ◌∙◌, subst, arith}
use Rattle.std.specs.Ordering.{nat_cmp, ordering_then, is_lt}
use Rattle.std.specs.declared.cmp.Ordering.{Ordering}
use Rattle.std.specs.declared.cmp.Ordering.TheVariants.{Less, Equal, Greater}
use Rattle.std.specs.Cmp.{nat_cmp_is}
use Rattle.std.specs.List.Sorted.{IsPartitionedBy, IsPartitionPoint}
use Rattle.std.proofs.lemmas.Bool.{cases_lt, cases_order, both_ways}
use Rattle.goal_graph.specs.declared.action.OpId.{OpId}
use Rattle.goal_graph.specs.declared.action.Stuck.{Stuck}
use Rattle.goal_graph.specs.Order.{IsBefore}
use Rattle.sim_cycles.specs.Knots.{stuck_ops}
use Rattle.sim_cycles.specs.Laws.{IsInOrder}
use Rattle.sim_cycles.specs.Places.{op_at}
use Rattle.sim_cycles.proofs.PlacesLemmas.{none_stuck, op_at_is_op_of_entry, place_of, before_at}

-- the test of the search
abbrev pub is_earlier : OpId → Stuck → Bool
is_earlier x s = is_lt (ordering_then (nat_cmp s.op.rank x.rank) (nat_cmp s.op.op x.op))

earlier_true : (x : OpId) (s : Stuck) → IsBefore s.op x → is_earlier x s ≡ true
earlier_true x s (inl l) = ap (λ (o : Ordering). is_lt (ordering_then o (nat_cmp s.op.op x.op))) (sym (nat_cmp_is s.op.rank x.rank Less l))
earlier_true x s (inr r) =
    ap₂ (λ (o p : Ordering). is_lt (ordering_then o p)) (sym (nat_cmp_is s.op.rank x.rank Equal r.0)) (sym (nat_cmp_is s.op.op x.op Less r.1))

earlier_false : (x : OpId) (s : Stuck) → IsBefore x s.op → is_earlier x s ≡ false
earlier_false x s (inl l) = ap (λ (o : Ordering). is_lt (ordering_then o (nat_cmp s.op.op x.op))) (sym (nat_cmp_is s.op.rank x.rank Greater l))
earlier_false x s (inr r) =
    ap₂ (λ (o p : Ordering). is_lt (ordering_then o p)) (sym (nat_cmp_is s.op.rank x.rank Equal (sym r.0))) (sym (nat_cmp_is s.op.op x.op Greater r.1))

earlier_same : (x : OpId) (s : Stuck) → s.op ≡ x → is_earlier x s ≡ false
earlier_same x s e =
    ap₂ (λ (o p : Ordering). is_lt (ordering_then o p)) (sym (nat_cmp_is s.op.rank x.rank Equal (ap (λ (y : OpId). y.rank) e))) (sym (nat_cmp_is s.op.op x.op Equal (ap (λ (y : OpId). y.op) e)))

earlier_means : (x : OpId) (s : Stuck) → is_earlier x s ≡ true → IsBefore s.op x
earlier_means x s e = go (cases_order s.op.rank x.rank) (cases_order s.op.op x.op)
  where
    go : (s.op.rank ≡ x.rank) ⊎ ((s.op.rank < x.rank) ⊎ (x.rank < s.op.rank)) → (s.op.op ≡ x.op) ⊎ ((s.op.op < x.op) ⊎ (x.op < s.op.op)) → IsBefore s.op x
    go (inr (inl l)) _ = inl l
    go (inr (inr g)) _ = absurd (both_ways _ (earlier_false x s (inl g)) e)
    go (inl q) (inr (inl l)) = inr (q, l)
    go (inl q) (inr (inr g)) = absurd (both_ways _ (earlier_false x s (inr (sym q, g))) e)
    go (inl q) (inl r) = absurd (both_ways _ (earlier_same x s (λ i. record { rank = q i; op = r i })) e)

is_before_transitive : (x y z : OpId) → IsBefore x y → IsBefore y z → IsBefore x z
is_before_transitive x y z (inl p) (inl q) = inl (omega (arith, p, q))
is_before_transitive x y z (inl p) (inr q) = inl (omega (arith, p, q.0))
is_before_transitive x y z (inr p) (inl q) = inl (omega (arith, p.0, q))
is_before_transitive x y z (inr p) (inr q) = inr (p.0 ∙ q.0, omega (arith, p.1, q.1))

pub partitioned_by_earlier : (list : List Stuck) (x : OpId) → IsInOrder list → IsPartitionedBy (is_earlier x) list
partitioned_by_earlier list x order i j d le inside e = go (cases_lt i j)
  where
    at : (k : ℕ) → k < length list → op_at list k ≡ (get_or list k d).op
    at k h = op_at_is_op_of_entry list k d h

    go : (i < j) ⊎ (j ≤ i) → is_earlier x (get_or list i d) ≡ true
    go (inl less) = earlier_true x (get_or list i d) (is_before_transitive _ (get_or list j d).op _ (let P : OpId → Type 0 = λ y. IsBefore y (get_or list j d).op in subst P (at i (omega (arith, less, inside))) (let Q : OpId → Type 0 = λ y. IsBefore (op_at list i) y in subst Q (at j inside) (before_at list order i j less inside))) (earlier_means x (get_or list j d) e))
    go (inr more) = let same : j ≡ i = omega (arith, more, le) in ap (λ k. is_earlier x (get_or list k d)) (sym same) ∙ e

pub partition_point_is_place : (list : List Stuck) (x : OpId) (r : ℕ) → IsInOrder list → Contains (stuck_ops list) x → IsPartitionPoint (λ s. is_earlier x s ≡ true) (λ s. is_earlier x s ≡ false) list r → (r < length list) × (op_at list r ≡ x)
partition_point_is_place list x r order listed point = go (place_of list x listed)
  where
    go : ((k : ℕ) × (k < length list) × (op_at list k ≡ x)) → (r < length list) × (op_at list r ≡ x)
    go (k, inside, e) = on (cases_order r k)
      where
        itself : is_earlier x (get_or list k none_stuck) ≡ false
        itself = earlier_same x (get_or list k none_stuck) (sym (op_at_is_op_of_entry list k none_stuck inside) ∙ e)

        on : (r ≡ k) ⊎ ((r < k) ⊎ (k < r)) → (r < length list) × (op_at list r ≡ x)
        on (inl same) = (omega (arith, same, inside), ap (op_at list) same ∙ e)
        on (inr (inr past)) = absurd (both_ways _ itself (point.0 k none_stuck (omega arith) past))
        on (inr (inl less)) =
            let before : IsBefore (op_at list r) x = let P : OpId → Type 0 = λ y. IsBefore (op_at list r) y in subst P e (before_at list order r k less inside) in
            let first : IsBefore (get_or list r none_stuck).op x = let P : OpId → Type 0 = λ y. IsBefore y x in subst P (op_at_is_op_of_entry list r none_stuck (omega (arith, less, inside))) before in
            absurd (both_ways _ (point.1 r none_stuck (omega arith) (omega (arith, less, inside))) (earlier_true x (get_or list r none_stuck) first))
