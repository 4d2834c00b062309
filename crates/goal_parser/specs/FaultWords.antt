-- The message of a fault.
use Rattle.std.specs.Prelude.{ℕ, List, ◌++◌, codes, decimal}
use Rattle.goal_parser.specs.declared.faults.TextFault.{TextFault}
use Rattle.goal_parser.specs.declared.faults.TextFault.TheVariants as fault

abbrev pub fault_words : TextFault → List ℕ
fault_words (fault.Lex at) = codes "no token begins at byte " ++ decimal at
fault_words (fault.Syntax at) = codes "the text may not go on so at byte " ++ decimal at
fault_words (fault.Number at) = codes "the number at byte " ++ decimal at ++ codes " is outside its limits"
fault_words (fault.Rank at) = codes "the number at byte " ++ decimal at ++ codes " is no rank"
fault_words (fault.Repeat at) = codes "what stands at byte " ++ decimal at ++ codes " was given before"
fault_words (fault.TooMany at) = codes "the word at byte " ++ decimal at ++ codes " begins one item too many"
fault_words (fault.UnknownLabel at) = codes "the label at byte " ++ decimal at ++ codes " is not defined"
fault_words (fault.Plan rule) = codes "the plans of the text are no schedule"
fault_words fault.NoMemory = codes "out of memory"
