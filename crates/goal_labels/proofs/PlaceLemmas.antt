-- The item at a place of a list after the list changed.
use Rattle.std.proofs.Common.{◌≡◌, ◌≢◌, ℕ, ◌<◌, List, [], ◌∷◌, ◌++◌, Option, Some, None, length, slice_get, slice_set, refl, sym, ap, ◌∙◌, arith, length-append}
use Rattle.std.proofs.lemmas.Option.{slice_get_within, slice_get-get_or, get_or_from_slice_get}
use Rattle.std.proofs.lemmas.List.{get_or-set_same, get_or-set_other, length-set}
use Rattle.std.proofs.Math.ListN.{get_or-append}
use Rattle.std.proofs.Math.Seq.{get_or-append_seam}

-- an item stays at its place when items are appended
pub slice_get-left : {A : Type 0} (xs ys : List A) (i : ℕ) (x : A) → slice_get xs i ≡ Some x → slice_get (xs ++ ys) i ≡ Some x
slice_get-left xs ys i x h =
    let within = slice_get_within xs i x h in
    slice_get-get_or (xs ++ ys) i x (omega (arith, length-append xs ys, within))
    ∙ ap Some (get_or-append xs ys x i within ∙ get_or_from_slice_get xs i x x h)

-- an item within the old length was there before items were appended
pub slice_get-before : {A : Type 0} (xs ys : List A) (i : ℕ) (x : A) → i < length xs → slice_get (xs ++ ys) i ≡ Some x → slice_get xs i ≡ Some x
slice_get-before xs ys i x within h =
    slice_get-get_or xs i x within ∙ ap Some (sym (get_or-append xs ys x i within) ∙ get_or_from_slice_get (xs ++ ys) i x x h)

-- the item appended last
pub slice_get-last : {A : Type 0} (xs : List A) (x : A) → slice_get (xs ++ x ∷ []) (length xs) ≡ Some x
slice_get-last xs x =
    slice_get-get_or (xs ++ x ∷ []) (length xs) x (omega (arith, length-append xs (x ∷ []))) ∙ ap Some (get_or-append_seam xs x [] x)

-- the item that was put at a place
pub slice_get-set : {A : Type 0} (xs : List A) (i : ℕ) (x : A) → i < length xs → slice_get (slice_set xs i x) i ≡ Some x
slice_get-set xs i x within =
    slice_get-get_or (slice_set xs i x) i x (omega (arith, length-set xs i x, within)) ∙ ap Some (get_or-set_same xs i x x within)

-- the item at another place
pub slice_get_beside_set_place : {A : Type 0} (xs : List A) (i j : ℕ) (x : A) → j ≢ i → slice_get (slice_set xs i x) j ≡ slice_get xs j
slice_get_beside_set_place xs i j x apart = by (slice_get (slice_set xs i x) j) refl (slice_get xs j) refl
  where
    by : (a : Option _) → slice_get (slice_set xs i x) j ≡ a → (b : Option _) → slice_get xs j ≡ b → slice_get (slice_set xs i x) j ≡ slice_get xs j
    by (Some y) p b q =
        let within : j < length xs = omega (arith, length-set xs i x, slice_get_within (slice_set xs i x) j y p) in
        p ∙ ap Some (sym (get_or_from_slice_get (slice_set xs i x) j y y p) ∙ get_or-set_other xs i j x y apart) ∙ sym (slice_get-get_or xs j y within)
    by None p (Some y) q = slice_get-get_or (slice_set xs i x) j y (omega (arith, length-set xs i x, slice_get_within xs j y q)) ∙ ap Some (get_or-set_other xs i j x y apart) ∙ sym (slice_get-get_or xs j y (slice_get_within xs j y q))
    by None p None q = p ∙ sym q
