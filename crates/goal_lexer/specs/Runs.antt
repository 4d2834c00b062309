-- The token of a run.
use Rattle.std.specs.Prelude.{ℕ, ◌-◌, List, length, take}
use Rattle.goal_lexer.specs.declared.tokens.Token.{Token}
use Rattle.goal_lexer.specs.declared.tokens.TokenKind.{TokenKind}
use Rattle.goal_lexer.specs.declared.tokens.TokenKind.TheVariants.{Number, Size}
use Rattle.goal_lexer.specs.declared.mode.Form.{Form}
use Rattle.goal_lexer.specs.declared.mode.Form.TheVariants.{Word, Digits, Sized}
use Rattle.goal_lexer.specs.Words.{word_kind}
use Rattle.goal_lexer.specs.Numbers.{number_value}

-- the kind of a run of this form; a size ends with its `b`
abbrev pub run_kind : Form → List ℕ → TokenKind
run_kind Word bytes = word_kind bytes
run_kind Digits bytes = Number (number_value bytes)
run_kind Sized bytes = Size (number_value (take (length bytes - 1) bytes))

-- the token of a run that begins and ends at these places
abbrev pub run_token : ℕ → List ℕ → Form → ℕ → Token
run_token start bytes form end = record { kind = run_kind form bytes; start = start; end = end }
