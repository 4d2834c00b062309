-- The state of a lexer, and the texts that it represents.
use Rattle.std.specs.Prelude.{◌≡◌, ℕ, Bool, true, false, List, [], ◌∷◌, length, ⊤}
use Rattle.goal_lexer.specs.declared.tokens.Token.{Token}
use Rattle.goal_lexer.specs.State.{LexState}
use Rattle.goal_lexer.specs.Bytes.{is_run_byte}
use Rattle.goal_lexer.specs.Scan.{Scanned, scanned, ended}
use Rattle.goal_lexer.specs.Sound.{IsSound, IsRun}

-- the scan of a text; if its last run was returned, that run is ended
abbrev pub so_far : Bool → List ℕ → Scanned
so_far false text = scanned text
so_far true text = ended (length text) (scanned text)

-- if a run was returned at the end of a text, the text ends with that run
abbrev pub EndsRun : Bool → List ℕ → Type 0
EndsRun true text = IsRun (scanned text).0
EndsRun false text = ⊤

-- The lexer represents the text: it took as many bytes, has the same open, and knows whether the text's last run was
-- returned. A lexer that met a fault represents no text.
pub record Stands (lexer : LexState) (text : List ℕ) : Type 0 where
  pub place : length text ≡ lexer.place
  pub open_there : (so_far lexer.ends_run text).0 ≡ lexer.mode
  pub run_there : EndsRun lexer.ends_run text
  pub sound : IsSound lexer.mode

-- the tokens of the text that were returned so far
abbrev pub handed : LexState → List ℕ → List Token
handed lexer text = (so_far lexer.ends_run text).1

-- the first byte is a run byte
abbrev pub begins_run : List ℕ → Bool
begins_run [] = false
begins_run (c ∷ cs) = is_run_byte c
