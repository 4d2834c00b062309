-- Of operations that are tried in order, the first of which something holds is the least.
use Rattle.std.proofs.Common.{⊎_elim, ℕ, ◌+◌, ◌<◌, ◌≤◌, ◌≡◌, ◌≢◌, inl, inr, List, length, get_or, slice_get, Contains, Some, refl, sym, ap, ◌∙◌, subst, arith}
use Rattle.std.proofs.lemmas.Bool.{cases_lt}
use Rattle.std.proofs.lemmas.Option.{same_Some, slice_get_within, slice_get_read, slice_get-get_or, get_or_from_slice_get}
use Rattle.goal_graph.specs.declared.action.OpId.{OpId}
use Rattle.goal_graph.specs.Schedule.{Plan, operations}
use Rattle.goal_graph.specs.Order.{IsBefore, IsLess}
use Rattle.goal_graph.specs.Fault.{IsOp}
use Rattle.goal_graph.proofs.ForCallers.{listed_places, operations_in_order}
use Rattle.goal_blocks.specs.Faults.{IsLeast, op_key}

pub before_from_less : (y x : OpId) → IsLess (op_key y) (op_key x) → IsBefore y x
before_from_less y x (inl l) = inl l
before_from_less y x (inr (e, inl l)) = inr (e, l)
before_from_less y x (inr (e, inr f)) = absurd f.1

pub not_both_before : (y x : OpId) → IsBefore y x → IsBefore x y → ⊥
not_both_before y x (inl l) (inl m) = omega (arith, l, m)
not_both_before y x (inl l) (inr m) = omega (arith, l, m.0)
not_both_before y x (inr l) (inl m) = omega (arith, l.0, m)
not_both_before y x (inr l) (inr m) = omega (arith, l.1, m.1)

pub not_before_itself : (x : OpId) → IsBefore x x → ⊥
not_before_itself x b = not_both_before x x b b

-- of two different operations, one is before the other
pub other_before : (y x : OpId) → y ≢ x → (IsBefore x y → ⊥) → IsBefore y x
other_before y x differ not =
    ⊎_elim (λ l. inl l) (λ g. ⊎_elim (λ l. absurd (not (inl l))) (λ h. let e : y.rank ≡ x.rank = omega (arith, g, h) in ⊎_elim (λ l. inr (e, l)) (λ i. ⊎_elim (λ l. absurd (not (inr (sym e, l)))) (λ j. let f : y.op ≡ x.op = omega (arith, i, j) in absurd (differ (λ k. record { rank = e k; op = f k }))) (cases_lt x.op y.op)) (cases_lt y.op x.op)) (cases_lt x.rank y.rank)) (cases_lt y.rank x.rank)

pub place_of_contained : {X : Type 0} (xs : List X) (x : X) → Contains xs x → (k : ℕ) × (slice_get xs k ≡ Some x)
place_of_contained xs x c = (c.0, slice_get_read xs (length xs) c.0 x refl c.1 (sym c.2))

-- P holds of none of the first n operations
abbrev pub NoneSoFar : List Plan → (OpId → Type 0) → ℕ → Type 0
NoneSoFar plans P n = (k : ℕ) (x : OpId) → k < n → slice_get (operations plans) k ≡ Some x → P x → ⊥

module _ (plans : List Plan) (P : OpId → Type 0) where
  pub none_so_far_with_next : (n : ℕ) (x : OpId) → NoneSoFar plans P n → slice_get (operations plans) n ≡ Some x → (P x → ⊥) → NoneSoFar plans P (n + 1)
  none_so_far_with_next n x before at not k y l e p =
      ⊎_elim (λ less. before k y less e p) (λ no_less. let same : n ≡ k = omega (arith, l, no_less) in not (subst P (same_Some y x (sym e ∙ ap (slice_get (operations plans)) (sym same) ∙ at)) p)) (cases_lt k n)

  pub none_if_none_in_list : (n : ℕ) → NoneSoFar plans P n → length (operations plans) ≤ n → ((x : OpId) → P x → IsOp plans x) → (x : OpId) → P x → ⊥
  none_if_none_in_list n none all exists x p =
      let place = place_of_contained (operations plans) x ((listed_places plans x).1 (exists x p)) in
      none place.0 x (omega (arith, all, slice_get_within (operations plans) place.0 x place.1)) place.1 p

  pub least_if_first_that_holds : (n : ℕ) (x : OpId) → NoneSoFar plans P n → slice_get (operations plans) n ≡ Some x → P x → ((y : OpId) → P y → IsOp plans y) → IsLeast op_key P x
  least_if_first_that_holds n x none at p exists = record { holds = p; none_less = λ y less q. go y (before_from_less y x less) q (place_of_contained (operations plans) y ((listed_places plans y).1 (exists y q))) }
    where
      later : (y : OpId) (k : ℕ) → n ≤ k → slice_get (operations plans) k ≡ Some y → IsBefore y x → ⊥
      later y k g e b =
          let read_x = get_or_from_slice_get (operations plans) n x x at in
          let read_y = get_or_from_slice_get (operations plans) k y x e in
          ⊎_elim (λ l. not_both_before y x b (subst (λ (z : OpId). IsBefore z y) read_x (subst (λ (z : OpId). IsBefore (get_or (operations plans) n x) z) read_y (operations_in_order plans n k x l (slice_get_within (operations plans) k y e))))) (λ h. let same : k ≡ n = omega (arith, g, h) in let alike : y ≡ x = same_Some y x (sym e ∙ ap (slice_get (operations plans)) same ∙ at) in not_before_itself x (subst (λ (z : OpId). IsBefore z x) alike b)) (cases_lt n k)

      go : (y : OpId) → IsBefore y x → P y → (k : ℕ) × (slice_get (operations plans) k ≡ Some y) → ⊥
      go y b q (k, e) = ⊎_elim (λ l. none k y l e q) (λ g. later y k g e b) (cases_lt k n)

-- an operation of the list that is read
pub place_read : (plans : List Plan) (read : List OpId) (n : ℕ) (d : OpId) → read ≡ operations plans → n < length read → slice_get (operations plans) n ≡ Some (get_or read n d)
place_read plans read n d same inside =
    subst (λ (xs : List OpId). slice_get xs n ≡ Some (get_or read n d)) same (slice_get-get_or read n d inside)
