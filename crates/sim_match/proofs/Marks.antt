-- Marks of operations.
use Rattle.std.proofs.Common.{ℕ, zero, suc, ◌≤◌, ◌≡◌, ◌≢◌, ◌||◌, Bool, true, false, if◌then◌else◌, List, [], ◌∷◌, length, get_or, replicate, Some, AllPairs, slice_get, slice_set, refl, arith, sym, ap, ◌∙◌}
use Rattle.std.proofs.Math.Bool.{or-false, or-true}
use Rattle.std.proofs.lemmas.Bool.{false_from_ne_true, cond-true, cond-false}
use Rattle.std.proofs.lemmas.Option.{none-some, same_Some, slice_get_within, get_or_from_slice_get}
use Rattle.goal_graph.specs.declared.action.OpId.{OpId}
use Rattle.goal_graph.specs.Action.{same_op}
use Rattle.goal_graph.specs.Schedule.{Plan, operations}
use Rattle.goal_graph.proofs.ForCallers.{same_op_true, same_op_from, operations_differ}
use Rattle.sim_match.specs.MatchLists.{is_marked, IsMarked}

head_not_in_tail : {X : Type 0} (y : X) (ys : List X) → AllPairs (λ (x z : X). x ≢ z) (y ∷ ys) → (i : ℕ) (z : X) → slice_get ys i ≡ Some z → y ≢ z
head_not_in_tail y ys apart i z e same =
    let inside = slice_get_within ys i z e in
    apart 0 (suc i) z (omega arith) (omega (arith, inside)) (same ∙ sym (get_or_from_slice_get ys i z z e))

tail_pairwise_different : {X : Type 0} (y : X) (ys : List X) → AllPairs (λ (x z : X). x ≢ z) (y ∷ ys) → AllPairs (λ (x z : X). x ≢ z) ys
tail_pairwise_different y ys apart i j d l b = apart (suc i) (suc j) d (omega arith) (omega arith)

different_not_same_op : (y z : OpId) → y ≢ z → same_op y z ≡ false
different_not_same_op y z n = false_from_ne_true (same_op y z) (λ t. n (same_op_true y z t))

-- the mark that is read
mark_is_entry_at_place : (ops : List OpId) (marks : List Bool) (i : ℕ) (x : OpId) (d : Bool) → AllPairs (λ (y z : OpId). y ≢ z) ops → slice_get ops i ≡ Some x → length ops ≤ length marks → is_marked ops marks x ≡ get_or marks i d
mark_is_entry_at_place [] marks i x d apart e long = absurd (none-some x e)
mark_is_entry_at_place (y ∷ ys) [] i x d apart e long = absurd (omega arith)
mark_is_entry_at_place (y ∷ ys) (b ∷ bs) zero x d apart e long =
    cond-true (same_op y x) b (is_marked ys bs x) (same_op_from y x (same_Some y x e))
mark_is_entry_at_place (y ∷ ys) (b ∷ bs) (suc i) x d apart e long =
    cond-false (same_op y x) b (is_marked ys bs x) (different_not_same_op y x (head_not_in_tail y ys apart i x e)) ∙ mark_is_entry_at_place ys bs i x d (tail_pairwise_different y ys apart) e (omega arith)

-- the marks after one more
marked_after_entry_set : (ops : List OpId) (marks : List Bool) (i : ℕ) (x : OpId) → AllPairs (λ (y z : OpId). y ≢ z) ops → slice_get ops i ≡ Some x → length ops ≤ length marks → IsMarked ops x marks (slice_set marks i true)
marked_after_entry_set [] marks i x apart e long z = absurd (none-some x e)
marked_after_entry_set (y ∷ ys) [] i x apart e long z = absurd (omega arith)
marked_after_entry_set (y ∷ ys) (b ∷ bs) zero x apart e long z =
    go (same_op y z) ∙ ap (λ (w : OpId). (if same_op y z then b else is_marked ys bs z) || same_op w z) (same_Some y x e)
  where
    go : (s : Bool) → (if s then true else is_marked ys bs z) ≡ ((if s then b else is_marked ys bs z) || s)
    go true = sym (or-true b)
    go false = sym (or-false (is_marked ys bs z))
marked_after_entry_set (y ∷ ys) (b ∷ bs) (suc i) x apart e long z =
    go (same_op y z) refl (marked_after_entry_set ys bs i x (tail_pairwise_different y ys apart) e (omega arith) z)
  where
    go : (s : Bool) → same_op y z ≡ s → is_marked ys (slice_set bs i true) z ≡ (is_marked ys bs z || same_op x z) → (if s then b else is_marked ys (slice_set bs i true) z) ≡ ((if s then b else is_marked ys bs z) || same_op x z)
    go true f rest =
        let other : same_op x z ≡ false = different_not_same_op x z (λ same. head_not_in_tail y ys apart i x e (same_op_true y z f ∙ sym same)) in
        sym (ap (λ (t : Bool). b || t) other ∙ or-false b)
    go false f rest = rest

pub no_marks : (ops : List OpId) (n : ℕ) (x : OpId) → is_marked ops (replicate n false) x ≡ false
no_marks [] n x = refl
no_marks (y ∷ ys) zero x = refl
no_marks (y ∷ ys) (suc n) x = go (same_op y x) (no_marks ys n x)
  where
    go : (s : Bool) → is_marked ys (replicate n false) x ≡ false → (if s then false else is_marked ys (replicate n false) x) ≡ false
    go true rest = refl
    go false rest = rest

module _ (plans : List Plan) (marks : List Bool) (i : ℕ) (x : OpId) (e : slice_get (operations plans) i ≡ Some x) (long : length (operations plans) ≤ length marks) where
  pub operation_mark_read : (d : Bool) → is_marked (operations plans) marks x ≡ get_or marks i d
  operation_mark_read d = mark_is_entry_at_place (operations plans) marks i x d (operations_differ plans) e long

  pub operation_marked_after_set : IsMarked (operations plans) x marks (slice_set marks i true)
  operation_marked_after_set = marked_after_entry_set (operations plans) marks i x (operations_differ plans) e long
