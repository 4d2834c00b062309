-- The tokens at the front of a piece, while nothing is open.
use Rattle.std.specs.Prelude.{◌≡◌, ℕ, ◌+◌, ◌<◌, ◌≤◌, Bool, true, false, ◌&&◌, List, [], ◌∷◌, length, take, drop, slice_index}
use Rattle.std.specs.List.{list_all}
use Rattle.goal_lexer.specs.declared.mode.Mode.TheVariants.{Between}
use Rattle.goal_lexer.specs.declared.tokens.Token.{Token}
use Rattle.goal_lexer.specs.Bytes.{is_blank, begins_word, is_run_byte}
use Rattle.goal_lexer.specs.Scan.{scan, ended}
use Rattle.goal_lexer.specs.Sound.{IsRun}
use Rattle.goal_lexer.specs.Stands.{begins_run}

-- the first n bytes of the piece are blanks
abbrev pub AreBlanks : List ℕ → ℕ → Type 0
AreBlanks piece n = (n ≤ length piece) × ((k : ℕ) → k < n → is_blank (slice_index piece k) ≡ true)

-- a letter or `_`, followed by run bytes
abbrev pub is_word : List ℕ → Bool
is_word [] = false
is_word (c ∷ cs) = begins_word c && list_all is_run_byte cs

-- The first `count` bytes of a piece at this place are these tokens and leave nothing open, if nothing was open before.
-- The flag says that they end with a run; then what follows in the piece does not continue it.
abbrev pub IsAhead : ℕ → List ℕ → ℕ → Bool → List Token → Type 0
IsAhead place piece count false tokens =
    (count ≤ length piece) × (scan Between place (take count piece) ≡ (Between, tokens))
IsAhead place piece count true tokens =
    (count < length piece) × (begins_run (drop count piece) ≡ false) × IsRun (scan Between place (take count piece)).0
    × (ended (place + count) (scan Between place (take count piece)) ≡ (Between, tokens))
