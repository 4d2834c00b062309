-- The numbers of operations, dependencies and notes that a text has begun.
use Rattle.std.specs.Prelude.{◌+◌, Bool, false, nat_le, List, [], ◌∷◌}
use Rattle.goal_lexer.specs.declared.tokens.Token.{Token}
use Rattle.goal_lexer.specs.declared.tokens.TokenKind.{TokenKind}
use Rattle.goal_lexer.specs.declared.tokens.TokenKind.TheVariants as token
use Rattle.goal_limits.specs.Limits.{op_limit, dep_limit, note_limit}
use Rattle.goal_parser.specs.declared.counts.Counts.{Counts}

-- `calc`, `send` and `recv` begin an operation, `requires` and `irequires` a dependency, `moves` and `adds` a note
unfoldable pub counts_with : TokenKind → Counts → Counts
counts_with token.Calc counts = record counts { ops = counts.ops + 1 }
counts_with token.Send counts = record counts { ops = counts.ops + 1 }
counts_with token.Recv counts = record counts { ops = counts.ops + 1 }
counts_with token.Requires counts = record counts { deps = counts.deps + 1 }
counts_with token.Irequires counts = record counts { deps = counts.deps + 1 }
counts_with token.Moves counts = record counts { notes = counts.notes + 1 }
counts_with token.Adds counts = record counts { notes = counts.notes + 1 }
counts_with _ counts = counts

-- the numbers of each that the text has begun
unfoldable pub counts_of : List Token → Counts
counts_of [] = record { ops = 0; deps = 0; notes = 0 }
counts_of (t ∷ before) = counts_with t.kind (counts_of before)

-- the word begins an item beyond the limit
unfoldable pub is_too_many : TokenKind → Counts → Bool
is_too_many token.Calc counts = nat_le op_limit counts.ops
is_too_many token.Send counts = nat_le op_limit counts.ops
is_too_many token.Recv counts = nat_le op_limit counts.ops
is_too_many token.Requires counts = nat_le dep_limit counts.deps
is_too_many token.Irequires counts = nat_le dep_limit counts.deps
is_too_many token.Moves counts = nat_le note_limit counts.notes
is_too_many token.Adds counts = nat_le note_limit counts.notes
is_too_many _ counts = false
