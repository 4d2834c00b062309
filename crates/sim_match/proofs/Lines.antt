-- The operations of a queue: each links to the one behind it.
use Rattle.std.proofs.Common.{ℕ, ◌<◌, ◌≤◌, ◌≡◌, ◌≢◌, List, [], ◌∷◌, ◌++◌, length, Some, None, All, AllPairs, Contains, slice_get, slice_set, refl, arith, sym, ap, ◌∙◌, subst, inl, inr}
use Rattle.std.proofs.lemmas.Bool.{cases_lt}
use Rattle.std.proofs.lemmas.Option.{same_Some, slice_get_within, get_or_from_slice_get}
use Rattle.std.proofs.lemmas.List.Elements.{All-head, All-tail}
use Rattle.goal_graph.specs.declared.action.OpId.{OpId}
use Rattle.goal_graph.specs.Schedule.{Plan, operations}
use Rattle.goal_graph.specs.Fault.{IsOp}
use Rattle.goal_graph.proofs.ForCallers.{listed_exist, operations_differ, contains_first, contains_more}
use Rattle.sim_match.specs.declared.queues.Queue.{Queue}
use Rattle.sim_match.specs.Queues.{AreLinked, AreInLine, AreLeft}
use Rattle.sim_match.proofs.Written.{slice_get_written_place, slice_get_elsewhere}

-- an operation has only one place
place_unique_in : (ops : List OpId) → AllPairs (λ (x y : OpId). x ≢ y) ops → (i j : ℕ) (x : OpId) → slice_get ops i ≡ Some x → slice_get ops j ≡ Some x → i ≡ j
place_unique_in ops apart i j x e f =
    elim (cases_lt i j) [
      | inl l ↦ absurd (apart i j x l (slice_get_within ops j x f) (get_or_from_slice_get ops i x x e ∙ sym (get_or_from_slice_get ops j x x f)))
      | inr h ↦ elim (cases_lt j i) [
        | inl l ↦ absurd (apart j i x l (slice_get_within ops i x e) (get_or_from_slice_get ops j x x f ∙ sym (get_or_from_slice_get ops i x x e)))
        | inr g ↦ omega (arith, h, g)
      ]
    ]

pub place_unique : (plans : List Plan) (i j : ℕ) (x : OpId) → slice_get (operations plans) i ≡ Some x → slice_get (operations plans) j ≡ Some x → i ≡ j
place_unique plans = place_unique_in (operations plans) (operations_differ plans)

module _ (ops : List OpId) (next : List ℕ) where
  -- different operations have different places
  places_of_different_ops : (i j : ℕ) (x y : OpId) → slice_get ops i ≡ Some x → slice_get ops j ≡ Some y → x ≢ y → i ≢ j
  places_of_different_ops i j x y e f n same = n (same_Some x y (sym e ∙ ap (slice_get ops) same ∙ f))

  -- the last of them
  pub last_of_linked : (x : OpId) (xs : List OpId) (place last : ℕ) → slice_get ops place ≡ Some x → AreLinked ops next place last xs → (y : OpId) × (slice_get ops last ≡ Some y) × Contains (x ∷ xs) y
  last_of_linked x [] place last at linked = (x, ap (slice_get ops) (sym linked) ∙ at, contains_first x [] x refl)
  last_of_linked x (y ∷ ys) place last at linked =
      let rest = last_of_linked y ys linked.0 last linked.1.is linked.2 in
      (rest.0, rest.1, contains_more x (y ∷ ys) rest.0 rest.2)

  -- the list with another operation appended, whose place is j
  linked_with_new_last : (xs : List OpId) (x z : OpId) (place last j : ℕ) → slice_get ops place ≡ Some x → x ≢ z → All (λ (y : OpId). y ≢ z) xs → slice_get ops j ≡ Some z → last < length next → AreLinked ops next place last xs → AreLinked ops (slice_set next last j) place j (xs ++ z ∷ [])
  linked_with_new_last [] x z place last j at n all its within linked =
      (j, record { apart = places_of_different_ops place j x z at its n; links = ap (slice_get (slice_set next last j)) linked ∙ slice_get_written_place next last j within; is = its }, refl)
  linked_with_new_last (y ∷ ys) x z place last j at n all its within linked =
      (linked.0, record { apart = places_of_different_ops place j x z at its n; links = slice_get_elsewhere next last place j linked.1.apart ∙ linked.1.links; is = linked.1.is }, linked_with_new_last ys y z linked.0 last j linked.1.is (All-head (λ (y : OpId). y ≢ z) y ys all) (All-tail (λ (y : OpId). y ≢ z) y ys all) its within linked.2)

  -- a link of an operation outside the list is written
  linked_after_outside_write : (xs : List OpId) (x z : OpId) (place last k j : ℕ) → slice_get ops place ≡ Some x → x ≢ z → All (λ (y : OpId). y ≢ z) xs → slice_get ops k ≡ Some z → AreLinked ops next place last xs → AreLinked ops (slice_set next k j) place last xs
  linked_after_outside_write [] x z place last k j at n all its linked = linked
  linked_after_outside_write (y ∷ ys) x z place last k j at n all its linked =
      (linked.0, record { apart = linked.1.apart; links = slice_get_elsewhere next k place j (places_of_different_ops place k x z at its n) ∙ linked.1.links; is = linked.1.is }, linked_after_outside_write ys y z linked.0 last k j linked.1.is (All-head (λ (y : OpId). y ≢ z) y ys all) (All-tail (λ (y : OpId). y ≢ z) y ys all) its linked.2)

  -- the last of a queue
  pub last_of_line : (queue : Queue) (xs : List OpId) → AreInLine ops next queue xs → (y : OpId) × (slice_get ops queue.last ≡ Some y) × Contains xs y
  last_of_line queue [] line = absurd line
  last_of_line queue (x ∷ xs) line = last_of_linked x xs line.1 queue.last line.2 line.3

  pub first_of_line : (queue : Queue) (xs : List OpId) → AreInLine ops next queue xs → (place : ℕ) × (slice_get ops place ≡ Some queue.first)
  first_of_line queue [] line = absurd line
  first_of_line queue (x ∷ xs) line = (line.1, line.2 ∙ ap (λ (y : OpId). Some y) (sym line.0))

  pub line_of_one : (queue : Queue) (z : OpId) → queue.first ≡ z → slice_get ops queue.last ≡ Some z → AreInLine ops next queue (z ∷ [])
  line_of_one queue z first last = (first, queue.last, last, refl)

  pub line_with_new_last : (old new : Queue) (xs : List OpId) (z : OpId) → AreInLine ops next old xs → new.first ≡ old.first → slice_get ops new.last ≡ Some z → All (λ (y : OpId). y ≢ z) xs → length ops ≤ length next → AreInLine ops (slice_set next old.last new.last) new (xs ++ z ∷ [])
  line_with_new_last old new [] z line first last all long = absurd line
  line_with_new_last old new (x ∷ xs) z line first last all long =
      let end = last_of_linked x xs line.1 old.last line.2 line.3 in
      let within = slice_get_within ops old.last end.0 end.1 in
      (first ∙ line.0, line.1, line.2, linked_with_new_last xs x z line.1 old.last new.last line.2 (All-head (λ (y : OpId). y ≢ z) x xs all) (All-tail (λ (y : OpId). y ≢ z) x xs all) last (omega (arith, within, long)) line.3)

  pub line_after_outside_write : (queue : Queue) (xs : List OpId) (z : OpId) (k j : ℕ) → slice_get ops k ≡ Some z → All (λ (y : OpId). y ≢ z) xs → AreInLine ops next queue xs → AreInLine ops (slice_set next k j) queue xs
  line_after_outside_write queue [] z k j its all line = absurd line
  line_after_outside_write queue (x ∷ xs) z k j its all line =
      (line.0, line.1, line.2, linked_after_outside_write xs x z line.1 queue.last k j line.2 (All-head (λ (y : OpId). y ≢ z) x xs all) (All-tail (λ (y : OpId). y ≢ z) x xs all) its line.3)

-- without its first
module _ (plans : List Plan) (next : List ℕ) (queue new : Queue) (place : ℕ) (at : slice_get (operations plans) place ≡ Some queue.first) where
  line_starts_at_place : (x : OpId) (xs : List OpId) → (line : AreInLine (operations plans) next queue (x ∷ xs)) → line.1 ≡ place
  line_starts_at_place x xs line = place_unique plans line.1 place queue.first (line.2 ∙ ap (λ (y : OpId). Some y) (sym line.0)) at

  -- it was alone
  pub left_of_single : place ≡ queue.last → new.waits ≡ None → (x : OpId) (xs : List OpId) → AreInLine (operations plans) next queue (x ∷ xs) → AreLeft (operations plans) next queue new xs
  left_of_single same none x [] line = none
  left_of_single same none x (y ∷ ys) line = absurd (line.3.1.apart (line_starts_at_place x (y ∷ ys) line ∙ same))

  -- or others follow it
  pub first_has_link : place ≢ queue.last → (xs : List OpId) → AreInLine (operations plans) next queue xs → (behind : ℕ) × (slice_get next place ≡ Some behind) × (behind < length (operations plans))
  first_has_link n [] line = absurd line
  first_has_link n (x ∷ []) line = absurd (n (sym (line_starts_at_place x [] line) ∙ line.3))
  first_has_link n (x ∷ y ∷ ys) line =
      (line.3.0, ap (slice_get next) (sym (line_starts_at_place x (y ∷ ys) line)) ∙ line.3.1.links, slice_get_within (operations plans) line.3.0 y line.3.1.is)

  pub left_behind_first : place ≢ queue.last → (behind : ℕ) → slice_get next place ≡ Some behind → slice_get (operations plans) behind ≡ Some new.first → new.last ≡ queue.last → new.waits ≡ queue.waits → (x : OpId) (xs : List OpId) → AreInLine (operations plans) next queue (x ∷ xs) → AreLeft (operations plans) next queue new xs
  left_behind_first n behind links is last waits x [] line = absurd (n (sym (line_starts_at_place x [] line) ∙ line.3))
  left_behind_first n behind links is last waits x (y ∷ ys) line =
      let same : line.3.0 ≡ behind = same_Some line.3.0 behind (sym line.3.1.links ∙ ap (slice_get next) (line_starts_at_place x (y ∷ ys) line) ∙ links) in
      let its : y ≡ new.first = same_Some y new.first (sym line.3.1.is ∙ ap (slice_get (operations plans)) same ∙ is) in
      (waits, (sym its, line.3.0, line.3.1.is, subst (λ (n : ℕ). AreLinked (operations plans) next line.3.0 n ys) (sym last) line.3.2))

-- the operation at a place exists
pub op_at_place_exists : (plans : List Plan) (place : ℕ) (x : OpId) → slice_get (operations plans) place ≡ Some x → IsOp plans x
op_at_place_exists plans place x at =
    subst (IsOp plans) (get_or_from_slice_get (operations plans) place x x at) (listed_exist plans plans (operations plans) refl refl place x (slice_get_within (operations plans) place x at))
