-- The schedule on other ranks, operation by operation, and back.
use Rattle.std.proofs.Common.{ℕ, ◌<◌, ◌≤◌, ◌==◌, ◌≡◌, ⊎_elim, List, [], ◌∷◌, length, map, flat_map, Option, Some, None, slice_get, get_or, unwrap_or, refl, sym, ap, ◌∙◌, arith, zero-add}
use Rattle.std.specs.Option.{option_map}
use Rattle.std.specs.Prelude.{option_and_then, filter}
use Rattle.std.proofs.lemmas.Bool.{cases_lt}
use Rattle.std.proofs.lemmas.Option.{slice_get-map, slice_get-get_or, slice_get_past}
use Rattle.std.proofs.lemmas.List.FromFn.{length-map-range_with_len, get_or-map-range_with_len}
use Rattle.goal_graph.specs.declared.action.OpId.{OpId}
use Rattle.goal_graph.specs.declared.plan.Op.{Op}
use Rattle.goal_graph.specs.declared.plan.Dep.{Dep}
use Rattle.goal_graph.specs.declared.plan.Kind.{Kind}
use Rattle.goal_graph.specs.declared.plan.Kind.TheVariants.{Calc, Send, Recv}
use Rattle.goal_graph.specs.Schedule.{Plan, op_at, deps_at, needs, earlier_of}
use Rattle.goal_graph.specs.Action.{Act}
use Rattle.goal_blocks.specs.Slots.{notes_at, moved_by, added_by, slots, adds}
use Rattle.goal_blocks.specs.Placed.{IsPermutation, IsPlaced, placed_op, placed_act, placed_kind, placed_of, placed_plan, plan_at, placed}

-- the other permutation
pub inverse_permutation : (ranks : ℕ) (to back : ℕ → ℕ) → IsPermutation ranks to back → IsPermutation ranks back to
inverse_permutation ranks to back perm = record {
  back_to = perm.to_back;
  to_back = perm.back_to;
  within = within;
  others = λ r high. ap back (sym (perm.others r high)) ∙ perm.back_to r;
}
  where
    within : (r : ℕ) → r < ranks → back r < ranks
    within r low = ⊎_elim (λ l. l) (λ high. absurd (outside high)) (cases_lt (back r) ranks)
      where
        outside : ranks ≤ back r → ⊥
        outside high =
            let same = sym (perm.to_back r) ∙ perm.others (back r) high in
            omega (arith, same, high, low)

module _ (to back : ℕ → ℕ) (plans : List Plan) (perm : IsPermutation (length plans) to back) where
  abbrev plan_of : ℕ → Plan
  plan_of r = placed_plan to (plan_at plans (back r))

  pub length_placed : length (placed to back plans) ≡ length plans
  unfolding placed
  length_placed = length-map-range_with_len plan_of 0 (length plans)

  pub plan_placed_at : (r : ℕ) (d : Plan) → r < length plans → get_or (placed to back plans) r d ≡ plan_of r
  unfolding placed
  plan_placed_at r d low = get_or-map-range_with_len plan_of 0 (length plans) r r d low (zero-add r)

  slice_get_is_plan_at : (r : ℕ) → r < length plans → slice_get plans r ≡ Some (plan_at plans r)
  slice_get_is_plan_at r low = go (slice_get plans r) (slice_get-get_or plans r (plan_at plans r) low)
    where
      go : (o : Option Plan) → o ≡ Some (get_or plans r (plan_at plans r)) → o ≡ Some (unwrap_or o (record { ops = []; deps = []; notes = [] }))
      go None e = cc e
      go (Some p) e = refl

  -- the plan of a renamed rank
  pub plan_placed : (r : ℕ) → slice_get (placed to back plans) (to r) ≡ option_map (placed_plan to) (slice_get plans r)
  plan_placed r = ⊎_elim inside outside (cases_lt r (length plans))
    where
      inside : r < length plans → slice_get (placed to back plans) (to r) ≡ option_map (placed_plan to) (slice_get plans r)
      inside low =
          let there = perm.within r low in
          let size = length_placed in
          slice_get-get_or (placed to back plans) (to r) (plan_of (to r)) (omega (arith, there, size))
          ∙ (ap (λ (p : Plan). Some p) (plan_placed_at (to r) (plan_of (to r)) there) ∙ (ap (λ (q : ℕ). Some (placed_plan to (plan_at plans q))) (perm.back_to r) ∙ ap (option_map (placed_plan to)) (sym (slice_get_is_plan_at r low))))

      outside : length plans ≤ r → slice_get (placed to back plans) (to r) ≡ option_map (placed_plan to) (slice_get plans r)
      outside high =
          let same = perm.others r high in
          let size = length_placed in
          slice_get_past (placed to back plans) (to r) (omega (arith, same, high, size)) ∙ ap (option_map (placed_plan to)) (sym (slice_get_past plans r high))

  ops_placed : (x : OpId) → op_at (placed to back plans) (placed_op to x) ≡ option_map (placed_of to) (op_at plans x)
  unfolding op_at
  ops_placed x =
      ap (λ (o : Option Plan). option_and_then (λ (p : Plan). slice_get p.ops x.op) o) (plan_placed x.rank) ∙ go (slice_get plans x.rank)
    where
      go : (o : Option Plan) → option_and_then (λ (p : Plan). slice_get p.ops x.op) (option_map (placed_plan to) o) ≡ option_map (placed_of to) (option_and_then (λ (p : Plan). slice_get p.ops x.op) o)
      go None = refl
      go (Some p) = slice_get-map (placed_of to) p.ops x.op

  deps_placed : (r : ℕ) → deps_at (placed to back plans) (to r) ≡ deps_at plans r
  unfolding deps_at
  deps_placed r =
      ap (λ (o : Option Plan). unwrap_or (option_map (λ (p : Plan). p.deps) o) []) (plan_placed r) ∙ go (slice_get plans r)
    where
      go : (o : Option Plan) → unwrap_or (option_map (λ (p : Plan). p.deps) (option_map (placed_plan to) o)) [] ≡ unwrap_or (option_map (λ (p : Plan). p.deps) o) []
      go None = refl
      go (Some p) = refl

  needs_placed : (x : OpId) → needs (placed to back plans) (placed_op to x) ≡ needs plans x
  unfolding needs
  needs_placed x =
      ap (λ (ds : List Dep). map earlier_of (filter (λ (d : Dep). d.later == x.op) ds)) (deps_placed x.rank)

  notes_placed : (r : ℕ) → notes_at (placed to back plans) (to r) ≡ notes_at plans r
  unfolding notes_at
  notes_placed r =
      ap (λ (o : Option Plan). unwrap_or (option_map (λ (p : Plan). p.notes) o) []) (plan_placed r) ∙ go (slice_get plans r)
    where
      go : (o : Option Plan) → unwrap_or (option_map (λ (p : Plan). p.notes) (option_map (placed_plan to) o)) [] ≡ unwrap_or (option_map (λ (p : Plan). p.notes) o) []
      go None = refl
      go (Some p) = refl

  moves_placed : (x : OpId) → slots (placed to back plans) (placed_op to x) ≡ slots plans x
  unfolding slots
  moves_placed x = ap (flat_map (moved_by x.op)) (notes_placed x.rank)

  added_placed : (x : OpId) → adds (placed to back plans) (placed_op to x) ≡ adds plans x
  unfolding adds
  added_placed x = ap (flat_map (added_by x.op)) (notes_placed x.rank)

  pub placed_plans_are_placed : IsPlaced to plans (placed to back plans)
  placed_plans_are_placed = record {
    ranks = length_placed;
    ops = ops_placed;
    needs = needs_placed;
    moves = moves_placed;
    adds = added_placed;
  }

-- moved back to its own ranks, it is the original
module _ (ranks : ℕ) (to back : ℕ → ℕ) (perm : IsPermutation ranks to back) where
  kind_back : (k : Kind) → placed_kind back (placed_kind to k) ≡ k
  kind_back (Calc nanos) = refl
  kind_back (Send bytes target tag) =
      ap (λ (r : ℕ). Send bytes r tag) (perm.back_to target)
  kind_back (Recv room None tag) = refl
  kind_back (Recv room (Some source) tag) =
      ap (λ (r : ℕ). Recv room (Some r) tag) (perm.back_to source)

  op_of_back : (o : Option Op) → option_map (placed_of back) (option_map (placed_of to) o) ≡ o
  op_of_back None = refl
  op_of_back (Some p) =
      λ i. Some (record { kind = kind_back p.kind i; cpu = p.cpu; nic = p.nic })

  pub placed_op_after_back : (x : OpId) → placed_op to (placed_op back x) ≡ x
  placed_op_after_back x = λ i. record { rank = perm.to_back x.rank i; op = x.op }

  pub acts_back : (h : List Act) → map (placed_act to) (map (placed_act back) h) ≡ h
  acts_back [] = refl
  acts_back (a ∷ h) =
      λ i. record { class = a.class; op = placed_op_after_back a.op i } ∷ acts_back h i

  pub placed_back : (plans other : List Plan) → IsPlaced to plans other → IsPlaced back other plans
  placed_back plans other is = record {
    ranks = sym is.ranks;
    ops = λ y. sym (op_of_back (op_at plans (placed_op back y))) ∙ (ap (option_map (placed_of back)) (sym (is.ops (placed_op back y))) ∙ ap (λ (x : OpId). option_map (placed_of back) (op_at other x)) (placed_op_after_back y));
    needs = λ y. sym (is.needs (placed_op back y)) ∙ ap (needs other) (placed_op_after_back y);
    moves = λ y. sym (is.moves (placed_op back y)) ∙ ap (slots other) (placed_op_after_back y);
    adds = λ y. sym (is.adds (placed_op back y)) ∙ ap (adds other) (placed_op_after_back y);
  }
