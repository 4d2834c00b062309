-- The tests of a token. Each looks at the token and the tokens before it, of which the newest comes first.
use Rattle.std.specs.Prelude.{ℕ, Bool, not, List, Option, Some, None, is_none, if◌then◌else◌, nat_lt, nat_eq}
use Rattle.std.specs.List.{list_any}
use Rattle.std.specs.Option.{option_or, option_map}
use Rattle.goal_lexer.specs.declared.tokens.Token.{Token}
use Rattle.goal_lexer.specs.declared.tokens.TokenKind.{TokenKind}
use Rattle.goal_lexer.specs.declared.tokens.TokenKind.TheVariants as token
use Rattle.goal_parser.specs.declared.faults.TextFault.{TextFault}
use Rattle.goal_parser.specs.declared.faults.TextFault.TheVariants.{Syntax, Number, Rank, Repeat, TooMany, UnknownLabel}
use Rattle.goal_parser.specs.declared.sentence.State.{State}
use Rattle.goal_parser.specs.declared.sentence.State.TheVariants as state
use Rattle.goal_parser.specs.declared.draft.OptionWord.{OptionWord}
use Rattle.goal_parser.specs.declared.draft.Draft.{Draft}
use Rattle.goal_parser.specs.declared.counts.Counts.{Counts}
use Rattle.goal_parser.specs.declared.head.Mention.{Mention}
use Rattle.goal_parser.specs.Sentence.{entry, state_of}
use Rattle.goal_parser.specs.Numbers.{is_within}
use Rattle.goal_parser.specs.Ranks.{ranks_of, blocks_of}
use Rattle.goal_parser.specs.Actions.{draft_of, has_option}
use Rattle.goal_parser.specs.Counts.{counts_of, is_too_many}
use Rattle.goal_parser.specs.Items.{Definition, is_defined, first_unknown, head_of, defined_of, used_of}

abbrev pub fault_if : Bool → TextFault → Option TextFault
fault_if test fault = if test then Some fault else None

-- 1: the grammar has no entry for the token in the present state
unfoldable pub syntax_fault : State → Token → Option TextFault
syntax_fault s t = fault_if (is_none (entry s t.kind)) (Syntax t.start)

-- 2: a number is outside the limits of its place
unfoldable pub number_fault : State → OptionWord → Token → Option TextFault
number_fault s option t = fault_if (not (is_within s option t.kind)) (Number t.start)

-- 3 and 4: the number after `rank` is not below the number of ranks, or the rank already had a block
abbrev pub numbered_rank_fault : State → ℕ → List ℕ → ℕ → ℕ → Option TextFault
numbered_rank_fault state.Block ranks blocks n at =
    option_or (fault_if (not (nat_lt n ranks)) (Rank at)) (fault_if (list_any (nat_eq n) blocks) (Repeat at))
numbered_rank_fault _ ranks blocks n at = None

abbrev pub rank_fault_of : State → ℕ → List ℕ → TokenKind → ℕ → Option TextFault
rank_fault_of s ranks blocks (token.Number n) at = numbered_rank_fault s ranks blocks n at
rank_fault_of s ranks blocks _ at = None

unfoldable pub rank_fault : State → ℕ → List ℕ → Token → Option TextFault
rank_fault s ranks blocks t = rank_fault_of s ranks blocks t.kind t.start

-- 4: the action already has the option
unfoldable pub option_fault : Draft → Token → Option TextFault
option_fault draft t = fault_if (has_option t.kind draft) (Repeat t.start)

-- 4: a colon follows a label that the block has already defined
abbrev pub defined_fault : List Definition → Option Mention → Option TextFault
defined_fault defined None = None
defined_fault defined (Some subject) = fault_if (is_defined defined subject.label) (Repeat subject.at)

abbrev pub label_fault_of : List Definition → Option Mention → TokenKind → Option TextFault
label_fault_of defined subject token.Colon = defined_fault defined subject
label_fault_of defined subject _ = None

unfoldable pub label_fault : List Definition → Option Mention → Token → Option TextFault
label_fault defined subject t = label_fault_of defined subject t.kind

-- 5: the word begins an operation, a dependency or a note beyond the limit
unfoldable pub count_fault : Counts → Token → Option TextFault
count_fault counts t = fault_if (is_too_many t.kind counts) (TooMany t.start)

-- 6: a block ends that uses a label without defining it
abbrev pub unknown_fault_of : List Definition → List Mention → TokenKind → Option TextFault
unknown_fault_of defined used token.Close = option_map UnknownLabel (first_unknown defined used)
unknown_fault_of defined used _ = None

unfoldable pub unknown_fault : List Definition → List Mention → Token → Option TextFault
unknown_fault defined used t = unknown_fault_of defined used t.kind

-- the first of these tests that a token fails, in this order
unfoldable pub fault_by : State → Draft → ℕ → List ℕ → List Definition → Option Mention → Counts → List Mention → Token → Option TextFault
fault_by s draft ranks blocks defined subject counts used t =
    option_or (syntax_fault s t)
    (option_or (number_fault s draft.option t)
    (option_or (rank_fault s ranks blocks t)
    (option_or (option_fault draft t)
    (option_or (label_fault defined subject t)
    (option_or (count_fault counts t)
    (unknown_fault defined used t))))))

-- the first test that a token fails after these tokens
unfoldable pub token_fault : List Token → Token → Option TextFault
token_fault before t =
    fault_by (state_of before) (draft_of before) (ranks_of before) (blocks_of before) (defined_of before) (head_of before).subject (counts_of before) (used_of before) t
