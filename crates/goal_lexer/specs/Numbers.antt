-- The values of numbers and sizes.
use Rattle.std.specs.Prelude.{ℕ, ◌+◌, ◌-◌, ◌*◌, ◌^◌, min, List, fold}

-- the decimal value of a list of digits, of which `0` is 48
abbrev pub decimal_value : List ℕ → ℕ
decimal_value digits = fold (λ value digit. value * 10 + (digit - 48)) 0 digits

-- the value of a number token: its decimal value, or 2^64-1 if that is less
abbrev pub number_value : List ℕ → ℕ
number_value digits = min (decimal_value digits) (2 ^ 64 - 1)
