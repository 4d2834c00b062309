-- A list after a write.
use Rattle.std.proofs.Common.{ℕ, zero, suc, ◌<◌, ◌≡◌, List, [], ◌∷◌, length, Some, slice_get, slice_set, refl, arith, ap}
use Rattle.std.proofs.lemmas.Option.{same_Some, none-some}

-- what is read after a write, at its place and elsewhere
pub slice_get_written : {X : Type 0} (xs : List X) (i : ℕ) (y z : X) → slice_get (slice_set xs i y) i ≡ Some z → y ≡ z
slice_get_written [] i y z e = absurd (none-some z e)
slice_get_written (x ∷ xs) zero y z e = same_Some y z e
slice_get_written (x ∷ xs) (suc i) y z e = slice_get_written xs i y z e

pub slice_get_written_place : {X : Type 0} (xs : List X) (i : ℕ) (y : X) → i < length xs → slice_get (slice_set xs i y) i ≡ Some y
slice_get_written_place [] i y b = absurd (omega arith)
slice_get_written_place (x ∷ xs) zero y b = refl
slice_get_written_place (x ∷ xs) (suc i) y b = slice_get_written_place xs i y (omega arith)

pub slice_get_elsewhere : {X : Type 0} (xs : List X) (i k : ℕ) (y : X) → (k ≡ i → ⊥) → slice_get (slice_set xs i y) k ≡ slice_get xs k
slice_get_elsewhere [] i k y n = refl
slice_get_elsewhere (x ∷ xs) zero zero y n = absurd (n refl)
slice_get_elsewhere (x ∷ xs) zero (suc k) y n = refl
slice_get_elsewhere (x ∷ xs) (suc i) zero y n = refl
slice_get_elsewhere (x ∷ xs) (suc i) (suc k) y n = slice_get_elsewhere xs i k y (λ e. n (ap suc e))
