-- Numbers in groups of seven bits.
use Rattle.std.proofs.Common.{◌≡◌, ◌⊎◌, ℕ, zero, suc, ◌+◌, ◌-◌, ◌/◌, ◌%◌, ◌^◌, ◌<◌, ◌≤◌, [], ◌∷◌, length, refl, sym, ap, ◌∙◌, arith, inl, inr}
use Rattle.std.proofs.lemmas.Bool.{cases_lt, lt-ltb, le-ltb}
use Rattle.goal_binary.specs.File.{groups}

-- the most groups of a number
abbrev pub Fits : ℕ → ℕ → Type 0
Fits zero n = ⊥
Fits (suc left) n = (n < 128) ⊎ Fits left (n / 128)

pub fits_3 : (n : ℕ) → n < 2 ^ 21 → Fits 3 n
fits_3 n h = inr (inr (inl (omega (arith, h))))

pub fits_4 : (n : ℕ) → n < 2 ^ 28 → Fits 4 n
fits_4 n h = inr (fits_3 (n / 128) (omega (arith, h)))

pub fits_5 : (n : ℕ) → n < 2 ^ 35 → Fits 5 n
fits_5 n h = inr (fits_4 (n / 128) (omega (arith, h)))

fits_7 : (n : ℕ) → n < 2 ^ 49 → Fits 7 n
fits_7 n h = inr (inr (fits_5 (n / 128 / 128) (let a : n / 128 < 2 ^ 42 = omega (arith, h) in omega (arith, a))))

pub fits_10 : (n : ℕ) → n < 2 ^ 64 → Fits 10 n
fits_10 n h =
    let a : n / 128 < 2 ^ 57 = omega (arith, h) in
    let b : n / 128 / 128 < 2 ^ 50 = omega (arith, a) in
    let c : n / 128 / 128 / 128 < 2 ^ 43 = omega (arith, b) in
    inr (inr (inr (fits_7 (n / 128 / 128 / 128) (omega (arith, c)))))

-- a number below 128, and one above, in groups
pub groups-low : (left n : ℕ) → n < 128 → groups (suc left) n ≡ n ∷ []
unfolding groups
groups-low left n low = rw (lt-ltb n 128 low) refl

pub groups-high : (left n : ℕ) → 128 ≤ n → groups (suc left) n ≡ (128 + n % 128) ∷ groups left (n / 128)
unfolding groups
groups-high left n high = rw (le-ltb n 128 high) refl

-- at most this many groups
pub length-groups : (most left n : ℕ) → Fits most n → length (groups left n) ≤ most
unfolding groups
length-groups zero left n fit = absurd fit
length-groups (suc most) zero n fit = omega arith
length-groups (suc most) (suc left) n fit = elim (cases_lt n 128) [
  | inl low ↦ rw (groups-low left n low) (omega arith)
  | inr high ↦ elim fit [
    | inl low ↦ absurd (omega (arith, low, high))
    | inr fit ↦ let shorter = length-groups most left (n / 128) fit in rw (groups-high left n high) (omega (arith, shorter))
  ]
]

-- a group, and those above it
pub groups-more : (left n : ℕ) → 0 < left → 128 ≤ n → (128 + n % 128) ∷ groups (left - 1) (n / 128) ≡ groups left n
groups-more zero n some high = absurd (omega (arith, some))
groups-more (suc left) n some high =
    let one : suc left - 1 ≡ left = omega arith in
    ap (λ (k : ℕ). (128 + n % 128) ∷ groups k (n / 128)) one ∙ sym (groups-high left n high)
