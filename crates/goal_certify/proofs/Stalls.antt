-- Operations without an end in the walk, and the least of them.
use Rattle.std.proofs.Common.{ℕ, ◌+◌, ◌<◌, ◌≤◌, ◌≡◌, ◌≢◌, ◌⊎◌, inl, inr, true, false, List, Contains, length, get_or, Some, slice_get, refl, sym, ap, ◌∙◌, subst, arith}
use Rattle.std.proofs.lemmas.Bool.{cases_lt, cases_eq, both_ways}
use Rattle.std.proofs.lemmas.Option.{slice_get-get_or, slice_get_within, get_or_from_slice_get, same_Some}
use Rattle.goal_graph.specs.declared.action.OpId.{OpId}
use Rattle.goal_graph.specs.Schedule.{Plan, operations}
use Rattle.goal_graph.specs.Action.{Act}
use Rattle.goal_graph.specs.Order.{IsBefore, IsLess}
use Rattle.goal_graph.specs.Allowed.{has_ended}
use Rattle.goal_graph.specs.Fault.{IsOp}
use Rattle.goal_graph.proofs.ForCallers.{listed_places, operations_in_order}
use Rattle.goal_blocks.specs.declared.cert_fault.CertFault.TheVariants.{TooLarge, Wildcard, DoubleChannel, Unpaired, Lengths, Race, Stalls, Weight, Wrong, NoMemory}
use Rattle.goal_blocks.specs.Walk.{no_send, IsWalk}
use Rattle.goal_blocks.specs.Faults.{IsLeast, op_key, IsStalled}
use Rattle.goal_blocks.proofs.ForCallers.{one_walk}
use Rattle.goal_certify.specs.Stages.{IsFree, IsStopped}
use Rattle.goal_certify.proofs.Places.{listed_exists}
use Rattle.goal_certify.proofs.StageLemmas.{stopped_by}

module _ (plans : List Plan) where
  pub free_stalls : ((x : OpId) → IsStalled plans x → ⊥) → IsFree plans 6 7
  free_stalls none first wanted (TooLarge rank) from under has = omega (arith, from)
  free_stalls none first wanted (Wildcard op) from under has = omega (arith, from)
  free_stalls none first wanted (DoubleChannel y x) from under has = omega (arith, from)
  free_stalls none first wanted (Unpaired op) from under has = omega (arith, from)
  free_stalls none first wanted (Lengths m x) from under has = omega (arith, from)
  free_stalls none first wanted (Race rank lower higher slot) from under has = omega (arith, from)
  free_stalls none first wanted (Stalls op) from under has = none op has.holds
  free_stalls none first wanted (Weight total) from under has = omega (arith, under)
  free_stalls none first wanted (Wrong rank slot) from under has = omega (arith, under)
  free_stalls none first wanted NoMemory from under has = omega (arith, under)

  -- an operation earlier in the list of operations comes before
  pub earlier_before : (i j : ℕ) (x y : OpId) → i < j → slice_get (operations plans) i ≡ Some x → slice_get (operations plans) j ≡ Some y → IsBefore x y
  earlier_before i j x y l e f =
      let before = operations_in_order plans i j x l (slice_get_within (operations plans) j y f) in
      subst (λ (z : OpId). IsBefore z y) (get_or_from_slice_get (operations plans) i x x e) (subst (λ (z : OpId). IsBefore (get_or (operations plans) i x) z) (get_or_from_slice_get (operations plans) j y x f) before)

  -- an operation with a lesser key stands earlier
  before_excludes_lesser_key : (x y : OpId) → IsBefore x y → IsLess (op_key y) (op_key x) → ⊥
  before_excludes_lesser_key x y (inl l) (inl m) = omega (arith, l, m)
  before_excludes_lesser_key x y (inl l) (inr (e, m)) = omega (arith, l, e)
  before_excludes_lesser_key x y (inr (e, l)) (inl m) = omega (arith, e, m)
  before_excludes_lesser_key x y (inr (e, l)) (inr (f, inl m)) = omega (arith, l, m)
  before_excludes_lesser_key x y (inr (e, l)) (inr (f, inr (g, none))) = none

  not_itself : (x y : OpId) → x ≡ y → IsLess (op_key y) (op_key x) → ⊥
  not_itself x y s (inl l) = omega (arith, l, ap (λ (z : OpId). z.rank) s)
  not_itself x y s (inr (e, inl l)) = omega (arith, l, ap (λ (z : OpId). z.op) s)
  not_itself x y s (inr (e, inr (f, none))) = none

  -- those before the place have an end
  abbrev pub EndBelow : List Act → ℕ → Type 0
  EndBelow w k = (i : ℕ) (x : OpId) → i < k → slice_get (operations plans) i ≡ Some x → has_ended plans no_send x w ≡ true

  module _ (w : List Act) where
    pub end_more : (k : ℕ) (y : OpId) → EndBelow w k → slice_get (operations plans) k ≡ Some y → has_ended plans no_send y w ≡ true → EndBelow w (k + 1)
    end_more k y below at ended i x l e = go (cases_eq i k)
      where
        go : (i ≡ k) ⊎ (i ≢ k) → has_ended plans no_send x w ≡ true
        go (inl s) =
            let same : y ≡ x = same_Some y x (sym at ∙ ap (slice_get (operations plans)) (sym s) ∙ e) in
            subst (λ (z : OpId). has_ended plans no_send z w ≡ true) same ended
        go (inr d) = below i x (omega (arith, l, d)) e

  module _ (w : List Act) (walk : IsWalk plans w) where
    not_stalled : (x : OpId) → has_ended plans no_send x w ≡ true → IsStalled plans x → ⊥
    not_stalled x ended is = both_ways _ (is.1 w walk) ended

    slot_of : (x : OpId) → IsOp plans x → (i : ℕ) × (slice_get (operations plans) i ≡ Some x)
    slot_of x is =
        let listed : Contains (operations plans) x = (listed_places plans x).1 is in
        (listed.0, slice_get-get_or (operations plans) listed.0 x listed.1 ∙ ap Some listed.2)

    pub all_free : (k : ℕ) → EndBelow w k → length (operations plans) ≤ k → IsFree plans 6 7
    all_free k below l = free_stalls (λ x is. none x is (slot_of x is.0))
      where
        none : (x : OpId) → IsStalled plans x → (i : ℕ) × (slice_get (operations plans) i ≡ Some x) → ⊥
        none x is (i, at) =
            not_stalled x (below i x (omega (arith, l, slice_get_within (operations plans) i x at)) at) is

    pub stalled : (k : ℕ) (x : OpId) → EndBelow w k → slice_get (operations plans) k ≡ Some x → has_ended plans no_send x w ≡ false → IsStopped plans 6 7 (Stalls x)
    stalled k x below at never = stopped_by plans 6 (Stalls x) refl (λ first wanted. least)
      where
        none : (y : OpId) → IsLess (op_key y) (op_key x) → IsStalled plans y → (i : ℕ) × (slice_get (operations plans) i ≡ Some y) → ⊥
        none y l is (i, e) = go (cases_lt i k) (cases_eq i k)
          where
            go : (i < k) ⊎ (k ≤ i) → (i ≡ k) ⊎ (i ≢ k) → ⊥
            go (inl m) other = not_stalled y (below i y m e) is
            go (inr m) (inl s) =
                not_itself x y (same_Some x y (sym at ∙ ap (slice_get (operations plans)) (sym s) ∙ e)) l
            go (inr m) (inr d) = before_excludes_lesser_key x y (earlier_before k i x y (omega (arith, m, d)) at e) l

        least : IsLeast op_key (IsStalled plans) x
        least = record {
          holds = (listed_exists plans k x at, λ v other. subst (λ (h : List Act). has_ended plans no_send x h ≡ false) (one_walk plans w v walk other) never);
          none_less = λ y l is. none y l is (slot_of y is.0);
        }
