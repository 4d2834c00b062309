-- Numbers as words.
use Rattle.std.specs.Prelude.{ℕ, ◌&&◌, nat_lt, nat_le, Bool, List, length}
use Rattle.std.specs.List.{list_all}
use Rattle.std.specs.Char.{is_ascii_digit}

-- a number is 1 to 20 decimal digits
abbrev pub is_numeral : List ℕ → Bool
is_numeral w = nat_lt 0 (length w) && nat_le (length w) 20 && list_all is_ascii_digit w
