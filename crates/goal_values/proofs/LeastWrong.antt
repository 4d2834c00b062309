-- The least of the slots that fail a test, if they are tested in another order.
use Rattle.std.proofs.Common.{ℕ, ◌<◌, ◌≤◌, ◌≡◌, ⊎_elim, Bool, true, false, Option, Some, None, IfSome, IfNone, sym, subst, arith}
use Rattle.std.proofs.lemmas.Bool.{both_ways, cases_Bool}

module _ (test : ℕ → Bool) (slot_of : ℕ → ℕ) where
  -- of the slots at these places
  abbrev pub IsLeastWrong : ℕ → ℕ → Option ℕ → Type 0
  IsLeastWrong from place None =
      (p : ℕ) → from ≤ p → p < place → test (slot_of p) ≡ true
  IsLeastWrong from place (Some slot) =
      (test slot ≡ false) × ((p : ℕ) → from ≤ p → p < place → test (slot_of p) ≡ false → slot ≤ slot_of p)

  -- each slot that fails is at one of these places
  module _ (place_of : ℕ → ℕ) (back : (k : ℕ) → slot_of (place_of k) ≡ k) (from to place : ℕ) (asked_from : (k : ℕ) → test k ≡ false → from ≤ place_of k) (asked_to : (k : ℕ) → test k ≡ false → place_of k < to) (done : to ≤ place) where
    all_right : IsLeastWrong from place None → (k : ℕ) → test k ≡ true
    all_right none k = ⊎_elim (λ e. e) (λ fails. absurd (both_ways _ fails (there fails))) (cases_Bool (test k))
      where
        there : test k ≡ false → test k ≡ true
        there fails =
            let from_here = asked_from k fails in
            let to_here = asked_to k fails in
            subst (λ (q : ℕ). test q ≡ true) (back k) (none (place_of k) from_here (omega (arith, to_here, done)))

    lesser_right : (slot : ℕ) → IsLeastWrong from place (Some slot) → (k : ℕ) → k < slot → test k ≡ true
    lesser_right slot least k less = ⊎_elim (λ e. e) (λ fails. absurd (there fails)) (cases_Bool (test k))
      where
        there : test k ≡ false → ⊥
        there fails =
            let from_here = asked_from k fails in
            let to_here = asked_to k fails in
            let le = least.1 (place_of k) from_here (omega (arith, to_here, done)) (subst (λ (q : ℕ). test q ≡ false) (sym (back k)) fails) in
            let same = back k in
            omega (arith, le, same, less)

    pub found_right : (least : Option ℕ) → IsLeastWrong from place least → IfNone least ((k : ℕ) → test k ≡ true)
    found_right None none = all_right none
    found_right (Some slot) found = tt

    pub found_first : (least : Option ℕ) → IsLeastWrong from place least → IfSome least (λ slot. (k : ℕ) → k < slot → test k ≡ true)
    found_first None none = tt
    found_first (Some slot) found = lesser_right slot found

  pub found_wrong : (from place : ℕ) (least : Option ℕ) → IsLeastWrong from place least → IfSome least (λ slot. test slot ≡ false)
  found_wrong from place None none = tt
  found_wrong from place (Some slot) found = found.0
