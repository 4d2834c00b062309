-- Powers of two.
use Rattle.std.proofs.Common.{◌≡◌, ℕ, zero, suc, ◌+◌, ◌-◌, ◌*◌, ◌^◌, ◌<◌, Bool, true, refl, arith}
use Rattle.std.specs.Int.{is_power_of_two, IsPowerOfTwo}
use Rattle.std.specs.Int.RustNames.{count_ones}
use Rattle.std.specs.Int.Count.{ones, ones_in}
use Rattle.std.proofs.Math.Nat.{pow-suc}
use Rattle.std.proofs.lemmas.Bool.{eqb-true}
use Rattle.std.proofs.lemmas.Nat.{leading_top, ones_cat, zero_from_ones, pow_pos}
use Rattle.goal_limits.specs.declared.collective.Collective.{Collective}
use Rattle.goal_limits.specs.declared.collective.Collective.TheVariants.{Allreduce}
use Rattle.goal_blocks.specs.Generated.{HasPower}

ones_of_zero : count_ones 0 ≡ 0
unfolding ones ones_in
ones_of_zero = refl

ones_of_one : count_ones 1 ≡ 1
unfolding ones ones_in
ones_of_one = refl

power_of_two_is_positive : (n : ℕ) → is_power_of_two n ≡ true → 0 < n
power_of_two_is_positive zero h = absurd (omega (arith, eqb-true (count_ones 0) 1 h, ones_of_zero))
power_of_two_is_positive (suc n) h = omega arith

-- a number with one binary digit 1
pub power_from_test : (n : ℕ) → n < 2 ^ 32 → is_power_of_two n ≡ true → IsPowerOfTwo n
power_from_test n small one =
    let top = leading_top 32 n (power_of_two_is_positive n one) small in
    let below : n - 2 ^ top.0 < 2 ^ top.0 = omega (arith, top.2, top.3, pow-suc 2 top.0) in
    let parts : 1 * 2 ^ top.0 + (n - 2 ^ top.0) ≡ n = omega (arith, top.2) in
    let count = ones_cat top.0 1 (n - 2 ^ top.0) below in
    let one' : count_ones n ≡ 1 = eqb-true (count_ones n) 1 one in
    let rest : count_ones (n - 2 ^ top.0) ≡ 0 = omega (arith, rw parts at count, one', ones_of_one) in
    let none = zero_from_ones (n - 2 ^ top.0) rest in
    (top.0, omega (arith, none, top.2))

pub test_from_power : (n : ℕ) → IsPowerOfTwo n → is_power_of_two n ≡ true
test_from_power n p =
    let count = ones_cat p.0 1 0 (pow_pos p.0) in
    let parts : 1 * 2 ^ p.0 + 0 ≡ n = omega (arith, p.1) in
    let one : count_ones n ≡ 1 = omega (arith, rw parts at count, ones_of_one, ones_of_zero) in
    rw one refl

pub power_decides : (what : Collective) (n : ℕ) (b : Bool) → what ≡ Allreduce → n < 2 ^ 32 → b ≡ is_power_of_two n → (b ≡ true → HasPower what n) × (HasPower what n → b ≡ true)
power_decides what n b is small test = rw (is, test) (power_from_test n small, test_from_power n)
