-- The operation that the tokens of an action describe.
use Rattle.std.specs.Prelude.{ℕ, Bool, true, false, List, [], ◌∷◌, Some, None, unwrap_or}
use Rattle.goal_lexer.specs.declared.tokens.Token.{Token}
use Rattle.goal_lexer.specs.declared.tokens.TokenKind.{TokenKind}
use Rattle.goal_lexer.specs.declared.tokens.TokenKind.TheVariants as token
use Rattle.goal_graph.specs.declared.plan.Op.{Op}
use Rattle.goal_graph.specs.declared.plan.Kind.{Kind}
use Rattle.goal_graph.specs.declared.plan.Kind.TheVariants as kind
use Rattle.goal_parser.specs.declared.sentence.State.{State}
use Rattle.goal_parser.specs.declared.sentence.State.TheVariants as state
use Rattle.goal_parser.specs.declared.draft.Action.{Action}
use Rattle.goal_parser.specs.declared.draft.Action.TheVariants as action
use Rattle.goal_parser.specs.declared.draft.OptionWord.{OptionWord}
use Rattle.goal_parser.specs.declared.draft.OptionWord.TheVariants as option
use Rattle.goal_parser.specs.declared.draft.Draft.{Draft}
use Rattle.goal_parser.specs.Sentence.{state_of}

-- an action of which only the first word is read: what is not given is 0
abbrev pub begun : Action → OptionWord → Draft
begun action option =
    record { action = action; size = 0; peer = None; tag = Some 0; cpu = 0; nic = 0; has_tag = false; has_cpu = false; has_nic = false; option = option }

-- the number after an option's word
abbrev pub option_with : OptionWord → ℕ → Draft → Draft
option_with option.Tag n draft = record draft { tag = Some n }
option_with option.Cpu n draft = record draft { cpu = n }
option_with option.Nic n draft = record draft { nic = n }

-- what a number or a size of an action gives: first the size, then the target or source, then the values of options
abbrev pub number_with : State → ℕ → Draft → Draft
number_with state.Calc1 n draft = record draft { size = n }
number_with state.Send1 n draft = record draft { size = n }
number_with state.Recv1 n draft = record draft { size = n }
number_with state.Send3 n draft = record draft { peer = Some n }
number_with state.Recv3 n draft = record draft { peer = Some n }
number_with state.Calc3 n draft = option_with draft.option n draft
number_with state.Send5 n draft = option_with draft.option n draft
number_with state.Recv5 n draft = option_with draft.option n draft
number_with state.Recv6 n draft = option_with draft.option n draft
number_with _ n draft = draft

-- `any` as the source or as the tag of a receive
abbrev pub any_with : State → Draft → Draft
any_with state.Recv3 draft = record draft { peer = None }
any_with state.Recv5 draft = record draft { tag = None }
any_with _ draft = draft

-- the same after another token
unfoldable pub draft_with : State → TokenKind → Draft → Draft
draft_with s token.Calc draft = begun action.Calc draft.option
draft_with s token.Send draft = begun action.Send draft.option
draft_with s token.Recv draft = begun action.Recv draft.option
draft_with s token.Tag draft = record draft { has_tag = true; option = option.Tag }
draft_with s token.Cpu draft = record draft { has_cpu = true; option = option.Cpu }
draft_with s token.Nic draft = record draft { has_nic = true; option = option.Nic }
draft_with s token.Any draft = any_with s draft
draft_with s (token.Number n) draft = number_with s n draft
draft_with s (token.Size n) draft = number_with s n draft
draft_with s _ draft = draft

-- What the tokens of the newest action give, and the last option word. The newest token comes first.
unfoldable pub draft_of : List Token → Draft
draft_of [] = begun action.Calc option.Tag
draft_of (t ∷ before) = draft_with (state_of before) t.kind (draft_of before)

-- the operation of an action
abbrev pub kind_of : Action → Draft → Kind
kind_of action.Calc draft = kind.Calc draft.size
kind_of action.Send draft = kind.Send draft.size (unwrap_or draft.peer 0) (unwrap_or draft.tag 0)
kind_of action.Recv draft = kind.Recv draft.size draft.peer draft.tag

abbrev pub op_of : Draft → Op
op_of draft = record { kind = kind_of draft.action draft; cpu = draft.cpu; nic = draft.nic }

-- the word is that of an option that the action already has
abbrev pub has_option : TokenKind → Draft → Bool
has_option token.Tag draft = draft.has_tag
has_option token.Cpu draft = draft.has_cpu
has_option token.Nic draft = draft.has_nic
has_option _ draft = false
