-- The texts that a reader represents.
use Rattle.std.specs.Prelude.{◌≡◌, ℕ, List, [], None, reverse}
use Rattle.goal_lexer.specs.Stands.{Stands, handed}
use Rattle.goal_parser.specs.declared.reader.Reader.{Reader}
use Rattle.goal_parser.specs.Reads.{first_fault}
use Rattle.goal_parser.specs.Taken.{HasTaken}

-- The reader represents the text: its lexer does, no token that was returned fails a test, and its parser has taken
-- these tokens.
pub record StandsFor (reader : Reader) (text : List ℕ) : Type 0 where
  pub lexer : Stands reader.lexer text
  pub passed : first_fault [] (handed reader.lexer text) ≡ None
  pub taken : HasTaken reader.parser (reverse (handed reader.lexer text))
