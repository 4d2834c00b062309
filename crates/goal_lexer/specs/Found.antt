-- The token that a call of the lexer writes to the given place.
use Rattle.std.specs.Prelude.{Bool, true, false, Option, Some, None}
use Rattle.goal_lexer.specs.declared.tokens.Token.{Token}

-- the token written, if one was found; otherwise the place has no meaning
abbrev pub found_token : Bool → Token → Option Token
found_token true token = Some token
found_token false token = None
