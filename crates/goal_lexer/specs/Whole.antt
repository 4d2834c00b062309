-- Runs that end inside a piece.
use Rattle.std.specs.Prelude.{◌≡◌, ℕ, ◌+◌, ◌<◌, List, [], ◌∷◌, length, take, drop, false, true}
use Rattle.goal_lexer.specs.declared.mode.Mode.{Mode}
use Rattle.goal_lexer.specs.declared.mode.Mode.TheVariants.{Between}
use Rattle.goal_lexer.specs.declared.tokens.Token.{Token}
use Rattle.goal_lexer.specs.Bytes.{begins_word}
use Rattle.goal_lexer.specs.Scan.{scan, closing}
use Rattle.goal_lexer.specs.Stands.{begins_run}

-- a run begins as a word does
abbrev pub BeginsWord : List ℕ → Type 0
BeginsWord [] = ⊥
BeginsWord (c ∷ cs) = begins_word c ≡ true

-- the first `count` bytes of a piece, which begins at this place, are a whole run, and this is its token
abbrev pub IsWholeRun : ℕ → List ℕ → ℕ → Token → Type 0
IsWholeRun place piece count token =
    (0 < count) × (count < length piece) × (begins_run (drop count piece) ≡ false) × (token.end ≡ place + count)
    × ((run : Mode) × (scan Between place (take count piece) ≡ (run, [])) × (closing (place + count) run ≡ token ∷ []))
