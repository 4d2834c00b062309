-- An optional number: a number, or any.
use Rattle.std.specs.Prelude.{ℕ, ◌==◌, Bool, true, false, Option, Some, None}

-- the same number, or None twice
abbrev pub same_choice : Option ℕ → Option ℕ → Bool
same_choice None None = true
same_choice None (Some n) = false
same_choice (Some k) None = false
same_choice (Some k) (Some n) = k == n
