-- The limits of the numbers of a text.
use Rattle.std.specs.Prelude.{ℕ, ◌-◌, ◌^◌, Bool, true, ◌&&◌, nat_le}
use Rattle.goal_lexer.specs.declared.tokens.TokenKind.{TokenKind}
use Rattle.goal_lexer.specs.declared.tokens.TokenKind.TheVariants as token
use Rattle.goal_limits.specs.Limits.{rank_limit, size_limit, calc_limit}
use Rattle.goal_parser.specs.declared.sentence.State.{State}
use Rattle.goal_parser.specs.declared.sentence.State.TheVariants as state
use Rattle.goal_parser.specs.declared.draft.OptionWord.{OptionWord}
use Rattle.goal_parser.specs.declared.draft.OptionWord.TheVariants as option

-- the least number at its place: a schedule has a rank
abbrev pub least : State → ℕ
least state.Ranks = 1
least _ = 0

-- the limit of an option's number
abbrev pub option_most : OptionWord → ℕ
option_most option.Tag = 2 ^ 32 - 1
option_most option.Cpu = 255
option_most option.Nic = 255

-- the limit of a number in this state, after this option word
abbrev pub most : State → OptionWord → ℕ
most state.Ranks option = rank_limit
most state.Calc1 option = calc_limit
most state.Send1 option = size_limit
most state.Recv1 option = size_limit
most state.Calc3 option = option_most option
most state.Send5 option = option_most option
most state.Recv5 option = option_most option
most state.Recv6 option = option_most option
most _ option = 2 ^ 32 - 1

abbrev pub number_within : State → OptionWord → ℕ → Bool
number_within s option n = nat_le (least s) n && nat_le n (most s option)

-- the token's number or size, if it has one, is within the limits of its place
unfoldable pub is_within : State → OptionWord → TokenKind → Bool
is_within s option (token.Number n) = number_within s option n
is_within s option (token.Size n) = number_within s option n
is_within s option _ = true
