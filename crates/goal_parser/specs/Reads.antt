-- The meaning of a text: its plans, or its first fault.
use Rattle.std.specs.Prelude.{◌≡◌, ℕ, List, [], ◌∷◌, Option, Some, None, length, reverse}
use Rattle.std.specs.Option.{option_or}
use Rattle.goal_lexer.specs.declared.tokens.Token.{Token}
use Rattle.goal_lexer.specs.Scan.{lexed}
use Rattle.goal_graph.specs.Schedule.{Plan}
use Rattle.goal_graph.specs.Fault.{IsFault}
use Rattle.goal_parser.specs.declared.faults.TextFault.{TextFault}
use Rattle.goal_parser.specs.declared.faults.TextFault.TheVariants as fault
use Rattle.goal_parser.specs.declared.sentence.State.{State}
use Rattle.goal_parser.specs.declared.sentence.State.TheVariants as state
use Rattle.goal_parser.specs.Sentence.{state_of}
use Rattle.goal_parser.specs.Faults.{token_fault}
use Rattle.goal_parser.specs.Plans.{plans_of}

-- the fault of the first of these tokens that fails a test; the newest of the tokens before comes first
unfoldable pub first_fault : List Token → List Token → Option TextFault
first_fault before [] = None
first_fault before (t ∷ ts) = option_or (token_fault before t) (first_fault (t ∷ before) ts)

-- the text may end only between blocks
abbrev pub end_fault : State → ℕ → Option TextFault
end_fault state.Top place = None
end_fault _ place = Some (fault.Syntax place)

-- after the last token: the place where no token can be taken, or otherwise the end of the text
abbrev pub last_fault : Option ℕ → State → ℕ → Option TextFault
last_fault None s place = end_fault s place
last_fault (Some at) s place = Some (fault.Lex at)

-- the first fault of a text, other than those of its plans
unfoldable pub text_fault : List ℕ → Option TextFault
text_fault text =
    option_or (first_fault [] (lexed text).0) (last_fault (lexed text).1 (state_of (reverse (lexed text).0)) (length text))

-- the plans of a text without such a fault
unfoldable pub text_plans : List ℕ → List Plan
text_plans text = plans_of (reverse (lexed text).0)

-- the meaning of a text: plans or a fault
pub data Reading : Type 0 where
  plans : List Plan → Reading
  faulty : TextFault → Reading

abbrev pub reading : Option TextFault → List Plan → Reading
reading None ps = plans ps
reading (Some fault) ps = faulty fault

unfoldable pub reads : List ℕ → Reading
reads text = reading (text_fault text) (text_plans text)

-- the fault is that of the text: its own, or if it has none, one of its plans
abbrev pub IsFaultOfPlans : List Plan → TextFault → Type 0
IsFaultOfPlans ps (fault.Plan f) = IsFault ps f
IsFaultOfPlans ps _ = ⊥

abbrev pub IsFaultOf : Reading → TextFault → Type 0
IsFaultOf (faulty first) found = first ≡ found
IsFaultOf (plans ps) found = IsFaultOfPlans ps found
