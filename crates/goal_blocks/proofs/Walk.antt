-- A schedule has at most one walk.
use Rattle.std.proofs.Common.{⊎_elim, ◌≡◌, ◌⊎◌, inl, inr, List, [], ◌∷◌, refl, sym, ap, subst, arith}
use Rattle.std.proofs.lemmas.Bool.{both_ways}
use Rattle.goal_graph.specs.declared.action.OpId.{OpId}
use Rattle.goal_graph.specs.Schedule.{Plan}
use Rattle.goal_graph.specs.Action.{Act}
use Rattle.goal_graph.specs.Interleaving.{IsInterleaving, IsCompleteInterleaving}
use Rattle.goal_graph.proofs.ForCallers.{place_injective}
use Rattle.goal_blocks.specs.Walk.{no_send, ComesFirst, TakesFirst, IsWalk}

-- v is u with newer actions, or none, before it
pub data IsTail : List Act → List Act → Type 0 where
  whole : {u : List Act} → IsTail u u
  newer : {b : Act} {u v : List Act} → IsTail u v → IsTail u (b ∷ v)

empty_tail : (v : List Act) → IsTail [] v
empty_tail [] = whole
empty_tail (b ∷ v) = newer (empty_tail v)

-- a tail is the whole list, or the action that came after it is known
tail_is_equal_or_extends : (u v : List Act) → IsTail u v → (u ≡ v) ⊎ ((b : Act) × IsTail (b ∷ u) v)
tail_is_equal_or_extends u v whole = inl refl
tail_is_equal_or_extends u (b ∷ v) (newer t) =
    ⊎_elim (λ same. inr (b, subst (λ (z : List Act). IsTail (b ∷ u) (b ∷ z)) same whole)) (λ found. inr (found.0, newer found.1)) (tail_is_equal_or_extends u v t)

-- two actions are equal if neither comes later than the other
mutually_first_are_equal : (a b : Act) → ComesFirst a b → ComesFirst b a → a ≡ b
mutually_first_are_equal a b (inl (inl p)) (inl (inl q)) = absurd (omega (arith, p, q))
mutually_first_are_equal a b (inl (inl p)) (inl (inr (q, r))) = absurd (omega (arith, p, q))
mutually_first_are_equal a b (inl (inr (p, r))) (inl (inl q)) = absurd (omega (arith, p, q))
mutually_first_are_equal a b (inl (inr (p, r))) (inl (inr (q, s))) = absurd (omega (arith, r, s))
mutually_first_are_equal a b (inl (inl p)) (inr (e, q)) =
    let ranks = ap (λ (x : OpId). x.rank) e in absurd (omega (arith, p, ranks))
mutually_first_are_equal a b (inl (inr (p, r))) (inr (e, q)) =
    let ops = ap (λ (x : OpId). x.op) e in absurd (omega (arith, r, ops))
mutually_first_are_equal a b (inr (e, p)) (inl (inl q)) =
    let ranks = ap (λ (x : OpId). x.rank) e in absurd (omega (arith, q, ranks))
mutually_first_are_equal a b (inr (e, p)) (inl (inr (q, r))) =
    let ops = ap (λ (x : OpId). x.op) e in absurd (omega (arith, r, ops))
mutually_first_are_equal a b (inr (e, p)) (inr (f, q)) =
    let class = place_injective a.class b.class (omega (arith, p, q)) in
    λ i. record { class = class i; op = e i }

module _ (plans : List Plan) where
  tail_runs : (u v : List Act) → IsTail u v → IsInterleaving plans no_send v → IsInterleaving plans no_send u
  tail_runs u v whole run = run
  tail_runs u (b ∷ v) (newer t) run = tail_runs u v t run.0

  tail_takes : (u v : List Act) → IsTail u v → TakesFirst plans v → TakesFirst plans u
  tail_takes u v whole takes = takes
  tail_takes u (b ∷ v) (newer t) takes = tail_takes u v t takes.0

  -- of two lists that take what comes first, one is a tail of the other
  pub one_is_tail_of_other : (u v : List Act) → IsInterleaving plans no_send u → TakesFirst plans u → IsInterleaving plans no_send v → TakesFirst plans v → IsTail u v ⊎ IsTail v u
  one_is_tail_of_other [] v run takes run_v takes_v = inl (empty_tail v)
  one_is_tail_of_other (a ∷ u) v run takes run_v takes_v =
      ⊎_elim (λ t. ⊎_elim (λ same. inr (subst (λ (z : List Act). IsTail z (a ∷ u)) same (newer whole))) (λ found. inl (next_same found.0 found.1)) (tail_is_equal_or_extends u v t)) (λ t. inr (newer t)) (one_is_tail_of_other u v run.0 takes.0 run_v takes_v)
    where
      next_same : (b : Act) → IsTail (b ∷ u) v → IsTail (a ∷ u) v
      next_same b t =
          let now = tail_runs (b ∷ u) v t run_v in
          let taken = tail_takes (b ∷ u) v t takes_v in
          subst (λ (z : Act). IsTail (z ∷ u) v) (mutually_first_are_equal b a (taken.1 a run.1) (takes.1 b now.1)) t

  -- a complete interleaving is a tail only of itself
  pub complete_tail : (u v : List Act) → IsCompleteInterleaving plans no_send u → IsInterleaving plans no_send v → IsTail u v → u ≡ v
  complete_tail u v done run t =
      ⊎_elim (λ same. same) (λ found. absurd (both_ways _ (done.none_left found.0) (tail_runs (found.0 ∷ u) v found.1 run).1)) (tail_is_equal_or_extends u v t)

  pub one_walk : (v w : List Act) → IsWalk plans v → IsWalk plans w → v ≡ w
  one_walk v w walk other =
      ⊎_elim (λ t. complete_tail v w walk.complete other.complete.each t) (λ t. sym (complete_tail w v other.complete walk.complete.each t)) (one_is_tail_of_other v w walk.complete.each walk.in_order other.complete.each other.in_order)
