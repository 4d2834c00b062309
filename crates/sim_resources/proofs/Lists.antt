-- Elements of a list after appending.
use Rattle.std.proofs.Common.{ℕ, zero, suc, ◌≡◌, ◌⊎◌, inl, inr, List, [], ◌∷◌, ◌++◌, length, Some, slice_get, refl, ap, sym}
use Rattle.std.proofs.lemmas.Option.{same_Some}

-- an element keeps its index if others are appended
pub get_after_append : {X : Type 0} (xs ys : List X) (i : ℕ) (x : X) → slice_get xs i ≡ Some x → slice_get (xs ++ ys) i ≡ Some x
get_after_append [] ys i x e = absurd (cc e)
get_after_append (y ∷ xs) ys zero x e = e
get_after_append (y ∷ xs) ys (suc i) x e = get_after_append xs ys i x e

-- each element is an earlier one or the new one
pub appended_or_earlier : {X : Type 0} (xs : List X) (x : X) (i : ℕ) (y : X) → slice_get (xs ++ x ∷ []) i ≡ Some y → (slice_get xs i ≡ Some y) ⊎ ((i ≡ length xs) × (y ≡ x))
appended_or_earlier [] x zero y e = inr (refl, sym (same_Some x y e))
appended_or_earlier [] x (suc i) y e = absurd (cc e)
appended_or_earlier (z ∷ xs) x zero y e = inl e
appended_or_earlier (z ∷ xs) x (suc i) y e = go (appended_or_earlier xs x i y e)
  where
    go : (slice_get xs i ≡ Some y) ⊎ ((i ≡ length xs) × (y ≡ x)) → (slice_get xs i ≡ Some y) ⊎ ((suc i ≡ suc (length xs)) × (y ≡ x))
    go (inl f) = inl f
    go (inr f) = inr (ap suc f.0, f.1)
