-- The grammar of a text: which token may follow.
use Rattle.std.specs.Prelude.{Option, Some, None, List, [], ◌∷◌, unwrap_or}
use Rattle.goal_lexer.specs.declared.tokens.Token.{Token}
use Rattle.goal_lexer.specs.declared.tokens.TokenKind.{TokenKind}
use Rattle.goal_lexer.specs.declared.tokens.TokenKind.TheVariants as token
use Rattle.goal_parser.specs.declared.sentence.State.{State}
use Rattle.goal_parser.specs.declared.sentence.State.TheVariants as state

-- the state after a token that begins an item or ends the block
abbrev pub item_entry : TokenKind → Option State
item_entry token.Close = Some state.Top
item_entry (token.Label label) = Some state.Word
item_entry token.Calc = Some state.Calc1
item_entry token.Send = Some state.Send1
item_entry token.Recv = Some state.Recv1
item_entry _ = None

-- The grammar: the state after a token of this kind, if it is allowed. An action may be followed by its options, and by
-- whatever begins an item.
unfoldable pub entry : State → TokenKind → Option State
entry state.Start token.NumRanks = Some state.Ranks
entry state.Ranks (token.Number n) = Some state.Top
entry state.Top token.Rank = Some state.Block
entry state.Block (token.Number n) = Some state.Open
entry state.Open token.Open = Some state.Item
entry state.Item kind = item_entry kind
entry state.Word token.Colon = Some state.Action
entry state.Word token.Requires = Some state.Label
entry state.Word token.Irequires = Some state.Label
entry state.Word token.Moves = Some state.Note1
entry state.Word token.Adds = Some state.Note1
entry state.Label (token.Label label) = Some state.Item
entry state.Note1 (token.Number n) = Some state.Note2
entry state.Note2 token.To = Some state.Note3
entry state.Note3 (token.Number n) = Some state.Item
entry state.Action token.Calc = Some state.Calc1
entry state.Action token.Send = Some state.Send1
entry state.Action token.Recv = Some state.Recv1
entry state.Calc1 (token.Number n) = Some state.Calc2
entry state.Calc2 token.Cpu = Some state.Calc3
entry state.Calc2 kind = item_entry kind
entry state.Calc3 (token.Number n) = Some state.Calc2
entry state.Send1 (token.Number n) = Some state.Send2
entry state.Send1 (token.Size n) = Some state.Send2
entry state.Send2 token.To = Some state.Send3
entry state.Send3 (token.Number n) = Some state.Send4
entry state.Send4 token.Tag = Some state.Send5
entry state.Send4 token.Cpu = Some state.Send5
entry state.Send4 token.Nic = Some state.Send5
entry state.Send4 kind = item_entry kind
entry state.Send5 (token.Number n) = Some state.Send4
entry state.Recv1 (token.Number n) = Some state.Recv2
entry state.Recv1 (token.Size n) = Some state.Recv2
entry state.Recv2 token.From = Some state.Recv3
entry state.Recv3 (token.Number n) = Some state.Recv4
entry state.Recv3 token.Any = Some state.Recv4
entry state.Recv4 token.Tag = Some state.Recv5
entry state.Recv4 token.Cpu = Some state.Recv6
entry state.Recv4 token.Nic = Some state.Recv6
entry state.Recv4 kind = item_entry kind
entry state.Recv5 (token.Number n) = Some state.Recv4
entry state.Recv5 token.Any = Some state.Recv4
entry state.Recv6 (token.Number n) = Some state.Recv4
entry _ _ = None

-- The state after tokens, of which the newest comes first. A token that is not allowed is a fault, and leaves the state
-- unchanged.
unfoldable pub state_of : List Token → State
state_of [] = state.Start
state_of (t ∷ before) = unwrap_or (entry (state_of before) t.kind) (state_of before)
