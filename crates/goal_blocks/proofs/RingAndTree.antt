-- What holds of positions in the ring and in the tree, and of binary digits.
use Rattle.std.proofs.Common.{◌≡◌, ◌⊎◌, ℕ, suc, ◌+◌, ◌-◌, ◌*◌, ◌/◌, ◌%◌, ◌^◌, ◌<◌, ◌≤◌, eqb, Bool, true, false, inl, inr, refl, ap, ◌∙◌, subst, arith, shr_lt}
use Rattle.std.proofs.lemmas.Bool.{cases_lt}
use Rattle.std.proofs.lemmas.Bool.Decides.{nat_tests}
use Rattle.std.proofs.lemmas.Nat.{leading_length, one_shl, pow_pos, pow-add, mod_below, div-add-mod'}
use Rattle.std.proofs.Math.Pow.{pow_mono}
use Rattle.std.proofs.Math.Nat.{pow-suc, mul-le-mul_right}
use Rattle.std.specs.Prelude.{if◌then◌else◌}
use Rattle.std.specs.Int.Count.{count_leading_zeros}
use Rattle.goal_blocks.specs.Positions.{ahead, back, flipped, digits, upward}

-- the ring

pub ahead_below : (ranks v s : ℕ) → v < ranks → s ≤ ranks → ahead ranks v s < ranks
unfolding ahead
ahead_below ranks v s a b = grind (arith, nat_tests)

pub back_below : (ranks r s : ℕ) → r < ranks → back ranks r s < ranks
unfolding back
back_below ranks r s a = grind (arith, nat_tests)

-- binary digits

-- a number of n digits is below 2^n, and not below 2^(n - 1)
digits_bound_number : (n : ℕ) → n < 2 ^ 32 → (n < 2 ^ digits n) × (2 ^ digits n ≤ 2 * n + 1)
unfolding digits
digits_bound_number n h =
    let l = leading_length 32 n h in
    let e : 32 - count_leading_zeros 32 n ≡ l.0 = omega (arith, l.1) in
    rw e (l.2, l.3)

pub below_power_of_digits : (n i : ℕ) → n < 2 ^ 32 → digits n ≤ i → n < 2 ^ i
below_power_of_digits n i h le =
    let m = pow_mono le in
    omega (arith, m, (digits_bound_number n h).0)

pub power_below_digits_at_most : (n i : ℕ) → n < 2 ^ 32 → i < digits n → 2 ^ i ≤ n
power_below_digits_at_most n i h lt =
    let m : 2 ^ suc i ≤ 2 ^ digits n = pow_mono lt in
    let e = pow-suc 2 i in
    omega (arith, m, e, (digits_bound_number n h).1)

pub digits_few : (n k : ℕ) → n < 2 ^ 32 → n < 2 ^ k → digits n ≤ k
digits_few n k h few = go (cases_lt k (digits n))
  where
    go : (k < digits n) ⊎ (digits n ≤ k) → digits n ≤ k
    go (inl lt) = absurd (omega (arith, power_below_digits_at_most n k h lt))
    go (inr le) = le

-- the rank with another binary digit

-- if an even number is below 2^(j + 1), so is its successor
even_neighbour_below_power : (q j : ℕ) → q % 2 ≡ 0 → q < 2 ^ suc j → q + 1 < 2 ^ suc j
even_neighbour_below_power q j even lt =
    let e = pow-suc 2 j in
    omega (arith, e)

pub flipped_below : (m r k : ℕ) → r < 2 ^ m → k < m → flipped r k < 2 ^ m
unfolding flipped
flipped_below m r k lt few = go (eqb (r / 2 ^ k % 2) 0) refl
  where
    raised : r / 2 ^ k % 2 ≡ 0 → r + 2 ^ k < 2 ^ m
    raised even =
        let j = m - suc k in
        let e : m ≡ suc j + k = omega arith in
        let below : r < 2 ^ (suc j + k) = subst (λ (n : ℕ). r < 2 ^ n) e lt in
        let next = even_neighbour_below_power (r / 2 ^ k) j even (shr_lt (suc j) k below) in
        let up = mul-le-mul_right (2 ^ k) next in
        let parts = div-add-mod' r (2 ^ k) in
        let rest = mod_below r (2 ^ k) (pow_pos k) in
        let whole : 2 ^ m ≡ 2 ^ suc j * 2 ^ k = ap (λ (n : ℕ). 2 ^ n) e ∙ pow-add 2 (suc j) k in
        let split : suc (r / 2 ^ k + 1) * 2 ^ k ≡ r / 2 ^ k * 2 ^ k + 2 ^ k + 2 ^ k = grind arith in
        omega (arith, up, parts, rest, whole, split)

    go : (b : Bool) → eqb (r / 2 ^ k % 2) 0 ≡ b → (if b then r + 2 ^ k else r - 2 ^ k) < 2 ^ m
    go true e = raised (grind (arith, nat_tests))
    go false e = omega arith

-- a number above 0 has a digit
pub digits_some : (n : ℕ) → n < 2 ^ 32 → 0 < n → 0 < digits n
digits_some n h some = go (cases_lt 0 (digits n))
  where
    go : (0 < digits n) ⊎ (digits n ≤ 0) → 0 < digits n
    go (inl lt) = lt
    go (inr none) = absurd (omega (arith, below_power_of_digits n 0 h none))

-- all virtual ranks but 0 have a parent

pub upward_some : (v : ℕ) → 0 < v → upward v ≡ 1
upward_some v h = grind (arith, nat_tests)

pub upward_few : (v : ℕ) → upward v ≤ 1
upward_few v = grind (arith, nat_tests)

-- 1 shifted by less than 32 places
pub one_shifted : (k : ℕ) → k < 32 → (1 * 2 ^ k) % 2 ^ 32 ≡ 2 ^ k
one_shifted k h = one_shl k 32 h
