-- A time that may not be known, as one number.
use Rattle.std.specs.Prelude.{ℕ, ◌≡◌, ◌==◌, Bool, true, false, Option, Some, None, if◌then◌else◌}
use Rattle.std.proofs.Common.{refl, sym}
use Rattle.std.proofs.lemmas.Bool.{eqb-true}

-- the number that represents no time: the greatest of 64 bits
abbrev pub no_time : ℕ
no_time = 18446744073709551615

-- the time that a number represents, and back
abbrev pub time_of : ℕ → Option ℕ
time_of n = if n == no_time then None else Some n

abbrev pub nanos_of : Option ℕ → ℕ
nanos_of None = no_time
nanos_of (Some n) = n

pub nanos_of_time_of : (n : ℕ) → nanos_of (time_of n) ≡ n
nanos_of_time_of n = go (n == no_time) refl
  where
    go : (b : Bool) → (n == no_time) ≡ b → nanos_of (if b then None else Some n) ≡ n
    go true e = sym (eqb-true n no_time e)
    go false e = refl
