-- A label, padded to its 64 bytes.
use Rattle.std.specs.Prelude.{◌≡◌, ℕ, ◌-◌, ◌≤◌, List, ◌++◌, length, replicate, take}
use Rattle.std.proofs.Common.{arith, ap, length-append}
use Rattle.std.proofs.lemmas.List.{length-take, length-replicate}
use Rattle.goal_limits.specs.Limits.{run_limit}

-- the bytes, followed by zeros up to 64 bytes
abbrev pub padded : List ℕ → List ℕ
padded bs = bs ++ replicate (run_limit - length bs) 0

pub length_taken : (n : ℕ) (bs : List ℕ) → n ≤ run_limit → padded (take n bs) ≡ bs → length (take n bs) ≡ n
length_taken n bs fits whole =
    let front = take n bs in
    omega (arith, length-take n bs, ap length whole, length-append front (replicate {A = ℕ} (run_limit - length front) 0), length-replicate {A = ℕ} (run_limit - length front) 0)
