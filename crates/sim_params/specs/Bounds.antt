-- Rounding up as a division, and the bound on the costs of LogGOPS.
use Rattle.std.specs.Prelude.{ℕ, zero, suc, ◌≡◌, ◌+◌, ◌-◌, ◌*◌, ◌/◌, ◌<◌, ◌≤◌, ◌^◌, Bool, true, false, nat_le}
use Rattle.std.proofs.Common.{arith, refl, ap}
use Rattle.std.proofs.lemmas.Bool.{le-leb, lt-leb}
use Rattle.sim_params.specs.declared.params.Params.{Params}
use Rattle.sim_params.specs.Costs.{log_gops, up, least_up_to, rounded_up}
use Rattle.sim_params.specs.Numbers.{numbers}
use Rattle.sim_params.specs.Bounded.{IsBounded}

-- the least number that passes, if it passes and no lesser one does
least_is : (n : ℕ) (test : ℕ → Bool) (k : ℕ) → k ≤ n → test k ≡ true → ((j : ℕ) → j < k → test j ≡ false) → least_up_to n test ≡ k
unfolding least_up_to
least_is zero test k within passes none = omega arith
least_is (suc n) test zero within passes none = rw passes refl
least_is (suc n) test (suc k) within passes none =
    rw (none 0 (omega arith)) (ap suc (least_is n (λ j. test (suc j)) k (omega arith) passes (λ j h. none (suc j) (omega arith))))

-- rounding up is an integer division
pub rounded_is : (picos : ℕ) → rounded_up picos ≡ (picos + 999) / 1000
unfolding rounded_up
rounded_is picos =
    least_is picos (λ q. nat_le picos (1000 * q)) ((picos + 999) / 1000) (omega arith) (le-leb picos (1000 * ((picos + 999) / 1000)) (omega arith)) (λ j h. lt-leb picos (1000 * j) (omega arith))

-- a cost per byte below 2^20 for a size below 2^40 is at most 2^60
pub product_bound : (c b : ℕ) → c < 2 ^ 20 → b < 2 ^ 40 → c * (b - 1) ≤ 2 ^ 60
product_bound c b hc hb = grind arith

picos_bound : (c b : ℕ) → c < 2 ^ 10 → b < 2 ^ 40 → c * (b - 1) ≤ 2 ^ 50
picos_bound c b hc hb = grind arith

-- the cost of the bytes of a message is at most 2^60 + 2^41
pub up_bound : (nanos picos bytes : ℕ) → nanos < 2 ^ 20 → picos < 2 ^ 10 → bytes < 2 ^ 40 → up nanos picos bytes ≤ 2 ^ 60 + 2 ^ 41
up_bound nanos picos bytes few fine small =
    omega (arith, product_bound nanos bytes few small, picos_bound picos bytes fine small, rounded_is (picos * (bytes - 1)))

-- with parameters within their limits, each cost is at most 2^61
pub log_gops_bounded : (p : Params) → IsBounded (log_gops (numbers p))
log_gops_bounded p =
    let w = p.within_limits in
    let gap = λ (bytes : ℕ) (h : bytes < 2 ^ 40). up_bound p.gap_per_byte p.gap_picos bytes (omega (arith, w.gap_per_byte)) (omega (arith, w.gap_picos)) h in
    let over = λ (bytes : ℕ) (h : bytes < 2 ^ 40). up_bound p.overhead_per_byte p.overhead_picos bytes (omega (arith, w.overhead_per_byte)) (omega (arith, w.overhead_picos)) h in
    record {
      over = λ from to bytes h. omega (arith, over bytes h, w.overhead);
      gap = λ from to bytes h. omega (arith, gap bytes h, w.gap);
      flight = λ from to bytes h. omega (arith, over bytes h, gap bytes h, w.overhead, w.latency);
      latency = λ from to. omega (arith, w.latency);
    }
