-- The fault of a token or of plans, as a fault of the text.
use Rattle.goal_parser.specs.declared.faults.TextFault.{TextFault}
use Rattle.goal_parser.specs.declared.faults.TextFault.TheVariants as text
use Rattle.goal_parser.specs.declared.token_faults.TokenFault.{TokenFault}
use Rattle.goal_parser.specs.declared.token_faults.TokenFault.TheVariants as token
use Rattle.goal_graph.specs.Limits.{IsLimitRule}
use Rattle.goal_graph.specs.declared.fault.PlanFault.{PlanFault}
use Rattle.goal_graph.specs.declared.fault.PlanFault.TheVariants as plan

abbrev pub fault_in_text : TokenFault → TextFault
fault_in_text (token.Lex at) = text.Lex at
fault_in_text (token.Syntax at) = text.Syntax at
fault_in_text (token.Number at) = text.Number at
fault_in_text (token.Rank at) = text.Rank at
fault_in_text (token.Repeat at) = text.Repeat at
fault_in_text (token.TooMany at) = text.TooMany at
fault_in_text (token.UnknownLabel at) = text.UnknownLabel at
fault_in_text token.NoMemory = text.NoMemory

-- the fault of plans, as a fault of the text
abbrev pub fault_of_plans : PlanFault → TextFault
fault_of_plans plan.NoMemory = text.NoMemory
fault_of_plans f = text.Plan f

-- the fault is a count or a value over its limit
abbrev pub IsLimitFault : TextFault → Type 0
IsLimitFault (text.Plan rule) = IsLimitRule rule
IsLimitFault _ = ⊥
