-- Bounds of the values of a rank that gathers in n rounds, in each as much as it has: slot 0 has at most 2^n in the end, and the
-- slot of round k, which is k + 1, what comes in it.
use Rattle.std.proofs.Common.{⊎_elim, ℕ, zero, suc, ◌+◌, ◌-◌, ◌^◌, ◌<◌, ◌≤◌, ◌≡◌, nat_lt, Bool, true, false, if◌then◌else◌, refl, sym, ap, subst, arith}
use Rattle.std.proofs.Math.Nat.{pow-suc}
use Rattle.std.proofs.lemmas.Bool.{lt-ltb, ltb-true, cases_lt, cases_eq}
use Rattle.goal_blocks.specs.Weight.{sum_below}
use Rattle.goal_blocks.proofs.Trees.{sum_below_more}

pub doubling : ℕ → ℕ → ℕ
doubling n zero = 2 ^ n
doubling n (suc k) = if nat_lt k n then 2 ^ k else 0

pub doubling_zero : (n : ℕ) → doubling n 0 ≡ 2 ^ n
unfolding doubling
doubling_zero n = refl

pub doubling_early : (n k : ℕ) → k < n → doubling n (suc k) ≡ 2 ^ k
unfolding doubling
doubling_early n k l = rw (lt-ltb k n l) refl

pub doubling_late : (n k : ℕ) → n ≤ k → doubling n (suc k) ≡ 0
unfolding doubling
doubling_late n k g = go (nat_lt k n) refl
  where
    go : (b : Bool) → nat_lt k n ≡ b → ◌≡◌ {A = ℕ} (if b then 2 ^ k else 0) 0
    go true e = absurd (let low = ltb-true k n e in omega (arith, low, g))
    go false e = refl

doubling_round : (n k : ℕ) → doubling n (suc k) ≤ 2 ^ k
doubling_round n k =
    ⊎_elim (λ l. let e = doubling_early n k l in omega (arith, e)) (λ g. let e = doubling_late n k g in omega (arith, e)) (cases_lt k n)

-- together they are below 2^n + 2^n
doubling_low : (n m : ℕ) → sum_below (suc m) (doubling n) + 1 ≤ 2 ^ n + 2 ^ m
unfolding sum_below doubling
doubling_low n zero = omega arith
doubling_low n (suc m) =
    let rest = doubling_low n m in
    let here = doubling_round n m in
    let twice = pow-suc 2 m in
    omega (arith, rest, here, twice)

pub doubling_high : (n m : ℕ) → n ≤ m → sum_below (suc m) (doubling n) + 1 ≤ 2 ^ n + 2 ^ n
unfolding sum_below
doubling_high n zero g =
    let none : n ≡ 0 = omega (arith, g) in
    subst (λ (k : ℕ). sum_below 1 (doubling n) + 1 ≤ 2 ^ n + 2 ^ k) (sym none) (doubling_low n 0)
doubling_high n (suc m) g =
    ⊎_elim (λ e. subst (λ (k : ℕ). sum_below (suc (suc m)) (doubling n) + 1 ≤ 2 ^ n + 2 ^ k) (sym e) (doubling_low n (suc m))) (λ d. let rest = doubling_high n m (omega (arith, g, d)) in let here = doubling_late n m (omega (arith, g, d)) in omega (arith, rest, here)) (cases_eq n (suc m))

-- exactly one below it
doubling_sum : (n m : ℕ) → m ≤ n → sum_below (suc m) (doubling n) + 1 ≡ 2 ^ n + 2 ^ m
unfolding sum_below doubling
doubling_sum n zero l = omega arith
doubling_sum n (suc m) l =
    let rest = doubling_sum n m (omega (arith, l)) in
    let here = doubling_early n m (omega (arith, l)) in
    let twice = pow-suc 2 m in
    omega (arith, rest, here, twice)

pub doubling_least : (n m : ℕ) → n < m → 2 ^ n + 2 ^ n ≤ sum_below m (doubling n) + 1
doubling_least n m l =
    let all = doubling_sum n n (omega arith) in
    let more = sum_below_more (doubling n) (suc n) (m - suc n) in
    let e : suc n + (m - suc n) ≡ m = omega (arith, l) in
    let whole = ap (λ (k : ℕ). sum_below k (doubling n)) e in
    omega (arith, all, more, whole)
