-- Depths of operations.
use Rattle.std.proofs.Common.{◌≡◌, ℕ, zero, suc, ◌+◌, ◌-◌, ◌<◌, ◌≤◌, ◌&&◌, ltb, Bool, true, false, List, [], ◌∷◌, refl, arith, zero-add}
use Rattle.std.specs.List.{list_all}
use Rattle.std.proofs.lemmas.Bool.{false≢true, ltb-true}
use Rattle.goal_graph.specs.declared.action.OpId.{OpId}
use Rattle.goal_graph.specs.declared.plan.Need.{Need}
use Rattle.goal_graph.specs.Schedule.{Plan, needs, needed}
use Rattle.goal_graph.specs.Fault.{is_below, HasDepth}
use Rattle.goal_graph.specs.Search.{op_id, is_among, unfinished}
use Rattle.goal_graph.proofs.Numbers.{and_left, and_right}
use Rattle.std.proofs.Math.Bool.{and-false}

-- a weaker test passes wherever a stronger one does
pub list_all-mono : {A : Type 0} (p q : A → Bool) → ((x : A) → p x ≡ true → q x ≡ true) → (xs : List A) → list_all p xs ≡ true → list_all q xs ≡ true
list_all-mono p q weaker [] h = refl
list_all-mono p q weaker (x ∷ xs) h = go (p x) refl (list_all-mono p q weaker xs)
  where
    go : (b : Bool) → p x ≡ b → (list_all p xs ≡ true → list_all q xs ≡ true) → (q x && list_all q xs) ≡ true
    go true passes rest = rw (weaker x passes) (rest (rw passes at h))
    go false fails rest = absurd (false≢true (rw fails at h))

module _ (plans : List Plan) where
  -- a bound of a depth stays a bound when it grows
  pub is_below-suc : (n : ℕ) (x : OpId) → is_below plans n x ≡ true → is_below plans (suc n) x ≡ true
  unfolding is_below
  is_below-suc zero x h = absurd (false≢true h)
  is_below-suc (suc n) x h = list_all-mono (λ (d : Need). is_below plans n (needed x d)) (λ (d : Need). is_below plans (suc n) (needed x d)) (λ d below. is_below-suc n (needed x d) below) (needs plans x) h

  is_below-add : (k n : ℕ) (x : OpId) → is_below plans n x ≡ true → is_below plans (k + n) x ≡ true
  is_below-add zero n x h = rw (zero-add n) h
  is_below-add (suc k) n x h =
      let e : suc k + n ≡ suc (k + n) = omega arith in
      rw e (is_below-suc (k + n) x (is_below-add k n x h))

  pub is_below-le : (n m : ℕ) (x : OpId) → n ≤ m → is_below plans n x ≡ true → is_below plans m x ≡ true
  is_below-le n m x le h =
      let e : m ≡ m - n + n = omega arith in
      rw e (is_below-add (m - n) n x h)

  module _ (rank : ℕ) (done : List ℕ) where
    -- needs that name finished operations, which have depths, have a common bound
    needs_share_a_bound : (ds : List Need) → ((op : ℕ) → is_among done op ≡ true → HasDepth plans (op_id rank op)) → unfinished done ds ≡ 0 → (n : ℕ) × (list_all (λ (d : Need). is_below plans n (op_id rank d.op)) ds ≡ true)
    unfolding unfinished
    needs_share_a_bound [] deep none = (0, refl)
    needs_share_a_bound (d ∷ ds) deep none = go (is_among done d.op) refl (needs_share_a_bound ds deep)
      where
        go : (b : Bool) → is_among done d.op ≡ b → (unfinished done ds ≡ 0 → (n : ℕ) × (list_all (λ (d : Need). is_below plans n (op_id rank d.op)) ds ≡ true)) → (n : ℕ) × ((is_below plans n (op_id rank d.op) && list_all (λ (d : Need). is_below plans n (op_id rank d.op)) ds) ≡ true)
        go true here rest =
            let none' = rw here at none in
            let r = rest (omega (arith, none')) in
            let h = deep d.op here in (
              h.bound + r.0,
              rw (is_below-le h.bound (h.bound + r.0) (op_id rank d.op) (omega arith) h.below)
                  (list_all-mono (λ (d : Need). is_below plans r.0 (op_id rank d.op)) (λ (d : Need). is_below plans (h.bound + r.0) (op_id rank d.op)) (λ d below. is_below-le r.0 (h.bound + r.0) (op_id rank d.op) (omega arith) below) ds r.1),
            )
        go false absent rest = absurd (omega (arith, rw absent at none))

    -- so an operation that needs only them has a depth
    pub HasDepth-from_needs : (op : ℕ) → ((k : ℕ) → is_among done k ≡ true → HasDepth plans (op_id rank k)) → unfinished done (needs plans (op_id rank op)) ≡ 0 → HasDepth plans (op_id rank op)
    unfolding is_below
    HasDepth-from_needs op deep none =
        let r = needs_share_a_bound (needs plans (op_id rank op)) deep none in
        record { bound = suc r.0; below = r.1 }

    module _ (ops : ℕ) where
      -- an unbounded need is enough for an operation to be unbounded
      unfinished_need_has_no_bound : (b : ℕ) → ((op : ℕ) → op < ops → is_among done op ≡ false → is_below plans b (op_id rank op) ≡ false) → (ds : List Need) → list_all (λ (d : Need). ltb d.op ops) ds ≡ true → 0 < unfinished done ds → list_all (λ (d : Need). is_below plans b (op_id rank d.op)) ds ≡ false
      unfolding unfinished
      unfinished_need_has_no_bound b stuck [] in_range some = absurd (omega arith)
      unfinished_need_has_no_bound b stuck (d ∷ ds) in_range some = go (is_among done d.op) refl (unfinished_need_has_no_bound b stuck ds (and_right _ _ in_range))
        where
          go : (c : Bool) → is_among done d.op ≡ c → (0 < unfinished done ds → list_all (λ (d : Need). is_below plans b (op_id rank d.op)) ds ≡ false) → (is_below plans b (op_id rank d.op) && list_all (λ (d : Need). is_below plans b (op_id rank d.op)) ds) ≡ false
          go true here rest = rw (rest (omega (arith, rw here at some))) (and-false (is_below plans b (op_id rank d.op)))
          go false absent rest = rw (stuck d.op (ltb-true _ _ (and_left _ _ in_range)) absent) refl

      -- operations each of which needs another of them have no depth
      pub needing_each_other_no_depth : ((op : ℕ) → op < ops → is_among done op ≡ false → 0 < unfinished done (needs plans (op_id rank op))) → ((op : ℕ) → list_all (λ (d : Need). ltb d.op ops) (needs plans (op_id rank op)) ≡ true) → (b op : ℕ) → op < ops → is_among done op ≡ false → is_below plans b (op_id rank op) ≡ false
      unfolding is_below
      needing_each_other_no_depth some in_range zero op inside absent = refl
      needing_each_other_no_depth some in_range (suc b) op inside absent =
          unfinished_need_has_no_bound b (needing_each_other_no_depth some in_range b) (needs plans (op_id rank op)) (in_range op) (some op inside absent)
