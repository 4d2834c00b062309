-- What a reader takes of the tokens at the front of a piece.
use Rattle.std.specs.Prelude.{◌≡◌, ◌≢◌, ℕ, ◌+◌, ◌<◌, ◌≤◌, ◌^◌, true, false, List, ◌++◌, Some, length, take, drop}
use Rattle.goal_lexer.specs.declared.mode.Mode.TheVariants.{Between}
use Rattle.goal_lexer.specs.State.{LexState}
use Rattle.goal_lexer.specs.Stands.{begins_run}
use Rattle.goal_parser.specs.declared.reader.Reader.{Reader}
use Rattle.goal_parser.specs.declared.token_faults.TokenFault.{TokenFault}
use Rattle.goal_parser.specs.declared.token_faults.TokenFault.TheVariants.{NoMemory}
use Rattle.goal_parser.specs.FaultInText.{fault_in_text}
use Rattle.goal_parser.specs.Reader.{StandsFor}
use Rattle.goal_parser.specs.Reads.{text_fault}

-- Tokens may be taken from the front of a piece: its places are numbers of 64 bits, nothing is open, and the piece does
-- not continue a run that was returned.
pub record MayGoOn (lexer : LexState) (start : ℕ) (rest : List ℕ) : Type 0 where
  pub place : start + length rest < 2 ^ 64
  pub same : lexer.place ≡ start
  pub apart : lexer.ends_run ≡ true → begins_run rest ≡ false
  pub between : lexer.mode ≡ Between

-- The reader took n bytes from the front of a piece, and represents each text continued by them. If it took none, it is
-- unchanged.
pub record GoesAhead (old : Reader) (rest : List ℕ) (new : Reader) (n : ℕ) : Type 0 where
  pub taken : n ≤ length rest
  pub place : new.place ≡ old.place + n
  pub same : new.lexer.place ≡ new.place
  pub apart : new.lexer.ends_run ≡ true → begins_run (drop n rest) ≡ false
  pub left : 0 < n → new.lexer.ends_run ≡ true → n < length rest
  pub between : old.lexer.mode ≡ Between → new.lexer.mode ≡ Between
  pub stands : (text : List ℕ) → StandsFor old text → StandsFor new (text ++ take n rest)
  pub none : n ≡ 0 → new ≡ old

-- this is the fault of each text continued by the piece, unless it is NoMemory
abbrev pub IsFaultAhead : Reader → List ℕ → TokenFault → Type 0
IsFaultAhead old rest fault =
    fault ≢ NoMemory → (text more : List ℕ) → StandsFor old text → text_fault (text ++ rest ++ more) ≡ Some (fault_in_text fault)
