-- The least operation at an end is found by the order of entries.
use Rattle.std.proofs.Common.{⊎_elim, ℕ, ◌+◌, ◌-◌, ◌<◌, ◌≤◌, ◌≡◌, ◌==◌, ◌&&◌, Bool, true, false, eq-eqb, List, [], ◌∷◌, ◌++◌, length, get_or, slice_get, Contains, All, Some, None, inl, inr, refl, sym, ap, ◌∙◌, subst, arith}
use Rattle.std.specs.declared.cmp.Ordering.{Ordering}
use Rattle.std.specs.declared.cmp.Ordering.TheVariants.{Less, Equal, Greater}
use Rattle.std.specs.Cmp.{IsTotalOrder, bool_cmp_total}
use Rattle.std.specs.List.Sorted.{IsSorted, IsSortedByKey, IsPartitionedBy, IsPartitionPoint, IsNonDecreasingBy, IsPermutation}
use Rattle.std.proofs.lemmas.List.{get_or_default}
use Rattle.std.specs.Ordering.{MatchOrdering, is_lt, nat_cmp, bool_cmp, ordering_then, ordering_index}
use Rattle.std.specs.Bool.{beq}
use Rattle.std.proofs.lemmas.Bool.{and_from, and_parts, both_ways, cases_lt, eqb-true}
use Rattle.std.proofs.lemmas.Cmp.{nat_cmp_total, on_total, then_total, ranked, tied_itself}
use Rattle.std.proofs.lemmas.List.Elements.{All-nil, All-push, Contains-append_left, Contains-push}
use Rattle.std.proofs.lemmas.List.Sorted.{searchable_from_sorted, sorted_far, ranks_by, All-permutation, Contains-permutation}
use Rattle.std.proofs.lemmas.Option.{none-some, same_Some, slice_get_within}
use Rattle.goal_graph.specs.declared.action.OpId.{OpId}
use Rattle.goal_graph.specs.Schedule.{Plan, operations}
use Rattle.goal_graph.specs.Order.{IsBefore}
use Rattle.goal_graph.specs.Keys.{op_cmp}
use Rattle.goal_graph.proofs.ForCallers.{listed_places}
use Rattle.goal_certify.specs.declared.ends.End.{End}
use Rattle.goal_certify.specs.declared.ends.OpAtEnd.{OpAtEnd}
use Rattle.goal_certify.proofs.InOrder.{place_of_contained}
use Rattle.goal_certify.proofs.EndLemmas.{end_exists}
use Rattle.goal_certify.specs.Ends.{end_of, end_cmp, entry_cmp, AreEndsOf, IsFirstAt}

pub end_total : IsTotalOrder end_cmp
end_total =
    then_total (on_total (λ (d : End). d.source) nat_cmp_total) (then_total (on_total (λ (d : End). d.target) nat_cmp_total) (then_total (on_total (λ (d : End). d.tag) nat_cmp_total) (on_total (λ (d : End). d.is_send) bool_cmp_total)))

op_total : IsTotalOrder op_cmp
op_total = then_total (on_total (λ (x : OpId). x.rank) nat_cmp_total) (on_total (λ (x : OpId). x.op) nat_cmp_total)

entry_total : IsTotalOrder entry_cmp
entry_total = then_total (on_total (λ (a : OpAtEnd). a.end) end_total) (on_total (λ (a : OpAtEnd). a.op) op_total)

-- ends that the order takes for equal are the same
then_equal : (a b : Ordering) → ordering_then a b ≡ Equal → (a ≡ Equal) × (b ≡ Equal)
then_equal Less b e = absurd (cc e)
then_equal Equal b e = (refl, e)
then_equal Greater b e = absurd (cc e)

nat_equal : (m n : ℕ) → nat_cmp m n ≡ Equal → m ≡ n
nat_equal m n e = ranked m n Equal (sym e)

bool_equal : (a b : Bool) → bool_cmp a b ≡ Equal → a ≡ b
bool_equal true true e = refl
bool_equal true false e = absurd (cc e)
bool_equal false true e = absurd (cc e)
bool_equal false false e = refl

end_equal : (d e : End) → end_cmp d e ≡ Equal → d ≡ e
end_equal d e q =
    let a = then_equal (nat_cmp d.source e.source) _ q in
    let b = then_equal (nat_cmp d.target e.target) _ a.1 in
    let c = then_equal (nat_cmp d.tag e.tag) _ b.1 in
    let source = nat_equal d.source e.source a.0 in
    let target = nat_equal d.target e.target b.0 in
    let tag = nat_equal d.tag e.tag c.0 in
    let side = bool_equal d.is_send e.is_send c.1 in
    λ i. record { source = source i; target = target i; tag = tag i; is_send = side i }

-- what the test of two ends says
abbrev pub same_end : End → End → Bool
same_end d e = (d.source == e.source) && ((d.target == e.target) && ((d.tag == e.tag) && beq d.is_send e.is_send))

same_side : (a b : Bool) → beq a b ≡ true → a ≡ b
same_side true true e = refl
same_side true false e = absurd (both_ways false refl e)
same_side false true e = absurd (both_ways false refl e)
same_side false false e = refl

side_itself : (a : Bool) → beq a a ≡ true
side_itself true = refl
side_itself false = refl

pub same_end_true : (d e : End) → true ≡ same_end d e → d ≡ e
same_end_true d e q =
    let a = and_parts (d.source == e.source) _ (sym q) in
    let b = and_parts (d.target == e.target) _ a.1 in
    let c = and_parts (d.tag == e.tag) _ b.1 in
    let source = eqb-true d.source e.source a.0 in
    let target = eqb-true d.target e.target b.0 in
    let tag = eqb-true d.tag e.tag c.0 in
    let side = same_side d.is_send e.is_send c.1 in
    λ i. record { source = source i; target = target i; tag = tag i; is_send = side i }

pub same_end_false : (d e : End) → false ≡ same_end d e → d ≡ e → ⊥
same_end_false d e q is =
    both_ways (same_end e e) (sym (subst (λ (f : End). false ≡ same_end f e) is q)) (and_from _ _ (eq-eqb e.source e.source refl) (and_from _ _ (eq-eqb e.target e.target refl) (and_from _ _ (eq-eqb e.tag e.tag refl) (side_itself e.is_send))))

-- an operation before another is less
then_less : (a b : Ordering) → a ≡ Equal → b ≡ Less → ordering_then a b ≡ Less
then_less a b e f = ap (λ (o : Ordering). ordering_then o b) e ∙ f

nat_less : (m n : ℕ) → m < n → nat_cmp m n ≡ Less
nat_less m n l = go (nat_cmp m n) (ranked m n (nat_cmp m n) refl)
  where
    go : (o : Ordering) → MatchOrdering o (m < n) (m ≡ n) (n < m) → o ≡ Less
    go Less q = refl
    go Equal q = absurd (omega (arith, l, q))
    go Greater q = absurd (omega (arith, l, q))

before_less : (y x : OpId) → IsBefore y x → op_cmp y x ≡ Less
before_less y x (inl l) = ap (λ (o : Ordering). ordering_then o (nat_cmp y.op x.op)) (nat_less y.rank x.rank l)
before_less y x (inr l) =
    then_less (nat_cmp y.rank x.rank) (nat_cmp y.op x.op) (ap (nat_cmp y.rank) (sym l.0) ∙ tied_itself nat_cmp_total y.rank) (nat_less y.op x.op l.1)

index_less : (o : Ordering) → is_lt o ≡ true → ordering_index o ≡ 0
index_less Less e = refl
index_less Equal e = absurd (both_ways false refl e)
index_less Greater e = absurd (both_ways false refl e)

less_index : (o : Ordering) → ordering_index o ≡ 0 → is_lt o ≡ true
less_index Less e = refl
less_index Equal e = absurd (omega (arith, e))
less_index Greater e = absurd (omega (arith, e))

equal_index : (o : Ordering) → is_lt o ≡ false → ordering_index o ≤ 1 → o ≡ Equal
equal_index Less e l = absurd (both_ways true e refl)
equal_index Equal e l = refl
equal_index Greater e l = absurd (omega (arith, l))

-- the end of an entry is less than this one
abbrev pub is_under : End → OpAtEnd → Bool
is_under e a = is_lt (end_cmp a.end e)

-- entries in order are in order of their ends
pub sorted_ends : (entries : List OpAtEnd) → IsSorted entry_cmp entries → IsSortedByKey (λ (a : OpAtEnd). a.end) end_cmp entries
sorted_ends entries sorted k d low b =
    not_less (end_cmp (get_or entries (k + 1) d).end (get_or entries k d).end) _ (sorted k d low b)
  where
    not_less : (a b : Ordering) → is_lt (ordering_then a b) ≡ false → is_lt a ≡ false
    not_less Less b q = absurd (both_ways true q refl)
    not_less Equal b q = refl
    not_less Greater b q = refl

-- the ends rise up to the next place
pub ends_rise_up_to_next_place : (entries read : List OpAtEnd) (place : ℕ) (e : OpAtEnd) → read ≡ entries → 1 ≤ place → place < length read → is_lt (end_cmp (get_or read (place - 1) e).end (get_or read place e).end) ≡ true → ((k : ℕ) (d : OpAtEnd) → k + 1 < place → is_lt (end_cmp (get_or entries k d).end (get_or entries (k + 1) d).end) ≡ true) → (k : ℕ) (d : OpAtEnd) → k + 1 < place + 1 → is_lt (end_cmp (get_or entries k d).end (get_or entries (k + 1) d).end) ≡ true
ends_rise_up_to_next_place entries read place e same some inside rises before k d l =
    ⊎_elim (λ less. before k d less) (λ last.
    let low : k ≡ place - 1 = omega (arith, l, last, some) in
    let high : k + 1 ≡ place = omega (arith, l, last) in
    let x : get_or entries k d ≡ get_or read (place - 1) e = ap (λ (xs : List OpAtEnd). get_or xs k d) (sym same) ∙ ap (λ (i : ℕ). get_or read i d) low ∙ get_or_default read (place - 1) d e (omega (arith, inside)) in
    let y : get_or entries (k + 1) d ≡ get_or read place e = ap (λ (xs : List OpAtEnd). get_or xs (k + 1) d) (sym same) ∙ ap (λ (i : ℕ). get_or read i d) high ∙ get_or_default read place d e inside in
    ap (λ (a : OpAtEnd). is_lt (end_cmp a.end (get_or entries (k + 1) d).end)) x ∙ ap (λ (b : OpAtEnd). is_lt (end_cmp (get_or read (place - 1) e).end b.end)) y ∙ rises) (cases_lt (k + 1) place)

module _ (entries : List OpAtEnd) (sorted : IsSorted entry_cmp entries) (e : End) where
  -- the entries rise by their ends
  ends_rise : IsNonDecreasingBy (λ (a : OpAtEnd). ordering_index (end_cmp a.end e)) entries
  ends_rise = searchable_from_sorted end_total (λ (a : OpAtEnd). a.end) entries e (sorted_ends entries sorted)

  pub partitioned_by_end : IsPartitionedBy (is_under e) entries
  partitioned_by_end i j d le b t =
      let rise = ends_rise i j d le b in
      less_index (end_cmp (get_or entries i d).end e) (omega (arith, rise, index_less (end_cmp (get_or entries j d).end e) t))

  module _ (start : ℕ) (point : IsPartitionPoint (λ (a : OpAtEnd). is_under e a ≡ true) (λ (a : OpAtEnd). is_under e a ≡ false) entries start) where
    -- what stands at the end does not stand before that point
    at_or_after : (y : OpId) (c : Contains entries (record { end = e; op = y })) → start ≤ c.0
    at_or_after y c =
        ⊎_elim (λ l. absurd (both_ways (is_under e (get_or entries c.0 (record { end = e; op = y }))) (ap (is_under e) c.2 ∙ ap is_lt (tied_itself end_total e)) (point.0 c.0 (record { end = e; op = y }) (omega arith) l))) (λ g. g) (cases_lt c.0 start)

    pub first_there : (a : OpAtEnd) → start < length entries → a ≡ get_or entries start a → a.end ≡ e → IsFirstAt entries e a.op
    first_there a inside read is = record { listed = (start, inside, get_or_entry ∙ same); none_before = λ y b c. apart y c (before_less y a.op b) }
      where
        get_or_entry : get_or entries start (record { end = e; op = a.op }) ≡ a
        get_or_entry = ap (get_or entries start) (sym same) ∙ sym read
          where
            same : a ≡ record { end = e; op = a.op }
            same = λ i. record { end = is i; op = a.op }

        same : a ≡ record { end = e; op = a.op }
        same = λ i. record { end = is i; op = a.op }

        apart : (y : OpId) (c : Contains entries (record { end = e; op = y })) → op_cmp y a.op ≡ Less → ⊥
        apart y c less =
            let far = sorted_far (λ (p q : OpAtEnd). is_lt (entry_cmp p q)) (ranks_by entry_total (λ (p : OpAtEnd). p)) entries sorted start c.0 (record { end = e; op = y }) (at_or_after y c) c.1 in
            let here : get_or entries start (record { end = e; op = y }) ≡ record { end = e; op = a.op } = get_or_default entries start (record { end = e; op = y }) a inside ∙ sym read ∙ same in
            let tied = then_less (end_cmp e e) (op_cmp y a.op) (tied_itself end_total e) less in
            both_ways (is_lt (entry_cmp (record { end = e; op = y }) (record { end = e; op = a.op }))) (subst (λ (p : OpAtEnd). is_lt (entry_cmp (record { end = e; op = y }) p) ≡ false) here (subst (λ (p : OpAtEnd). is_lt (entry_cmp p (get_or entries start (record { end = e; op = y }))) ≡ false) c.2 far)) (ap is_lt tied)

    pub none_past : length entries ≤ start → (y : OpId) → Contains entries (record { end = e; op = y }) → ⊥
    none_past past y c = let g = at_or_after y c in omega (arith, past, g, c.1)

    pub none_other : (a : OpAtEnd) → start < length entries → a ≡ get_or entries start a → (a.end ≡ e → ⊥) → (y : OpId) → Contains entries (record { end = e; op = y }) → ⊥
    none_other a inside read differ y c =
        let g = at_or_after y c in
        let rise = ends_rise start c.0 a g c.1 in
        let there : get_or entries c.0 a ≡ record { end = e; op = y } = get_or_default entries c.0 a (record { end = e; op = y }) c.1 ∙ c.2 in
        let top : ordering_index (end_cmp (get_or entries c.0 a).end e) ≡ 1 = ap (λ (p : OpAtEnd). ordering_index (end_cmp p.end e)) there ∙ ap ordering_index (tied_itself end_total e) in
        let not_under : is_under e (get_or entries start a) ≡ false = point.1 start a (omega arith) inside in
        let equal = equal_index (end_cmp (get_or entries start a).end e) not_under (omega (arith, rise, top)) in
        differ (ap (λ (p : OpAtEnd). p.end) read ∙ end_equal (get_or entries start a).end e equal)

-- the ends of the first n operations are collected
pub record AreCollected (plans : List Plan) (n : ℕ) (entries : List OpAtEnd) : Type 0 where
  pub listed : (k : ℕ) (x : OpId) (e : End) → k < n → slice_get (operations plans) k ≡ Some x → end_of plans x ≡ Some e → Contains entries (record { end = e; op = x })
  pub right : All (λ (a : OpAtEnd). end_of plans a.op ≡ Some a.end) entries

module _ (plans : List Plan) where
  pub collected_none : AreCollected plans 0 []
  collected_none = record { listed = λ k x e l at is. absurd (omega (arith, l)); right = All-nil (λ (a : OpAtEnd). end_of plans a.op ≡ Some a.end) }

  pub collected_skip : (n : ℕ) (entries : List OpAtEnd) (x : OpId) → AreCollected plans n entries → slice_get (operations plans) n ≡ Some x → end_of plans x ≡ None → AreCollected plans (n + 1) entries
  collected_skip n entries x are at none = record {
    listed = λ k y e l read is. ⊎_elim (λ less. are.listed k y e less read is) (λ g. let same : n ≡ k = omega (arith, l, g) in let alike : x ≡ y = same_Some x y (sym at ∙ ap (slice_get (operations plans)) same ∙ read) in absurd (none-some e (sym none ∙ ap (end_of plans) alike ∙ is))) (cases_lt k n);
    right = are.right;
  }

  pub collected_more : (n : ℕ) (entries : List OpAtEnd) (x : OpId) (e : End) → AreCollected plans n entries → slice_get (operations plans) n ≡ Some x → end_of plans x ≡ Some e → AreCollected plans (n + 1) (entries ++ record { end = e; op = x } ∷ [])
  collected_more n entries x e are at has = record {
    listed = λ k y d l read is. ⊎_elim (λ less. Contains-append_left entries _ _ (are.listed k y d less read is)) (λ g. let same : n ≡ k = omega (arith, l, g) in let alike : x ≡ y = same_Some x y (sym at ∙ ap (slice_get (operations plans)) same ∙ read) in let alike_end : e ≡ d = same_Some e d (sym has ∙ ap (end_of plans) alike ∙ is) in subst (λ (a : OpAtEnd). Contains (entries ++ record { end = e; op = x } ∷ []) a) (λ i. record { end = alike_end i; op = alike i }) (Contains-push entries (record { end = e; op = x }))) (cases_lt k n);
    right = All-push (λ (a : OpAtEnd). end_of plans a.op ≡ Some a.end) entries (record { end = e; op = x }) are.right has;
  }

  pub collected_all : (n : ℕ) (entries sorted : List OpAtEnd) → AreCollected plans n entries → length (operations plans) ≤ n → IsPermutation entries sorted → AreEndsOf plans sorted
  collected_all n entries sorted are all moved = record {
    listed = λ x e is. Contains-permutation entries sorted _ moved (let place = place_of_contained (operations plans) x ((listed_places plans x).1 (end_exists plans x e is)) in are.listed place.0 x e (omega (arith, all, slice_get_within (operations plans) place.0 x place.1)) place.1 is);
    right = All-permutation (λ (a : OpAtEnd). end_of plans a.op ≡ Some a.end) entries sorted moved are.right;
  }
