-- The messages of refusals.
use Rattle.std.specs.Prelude.{ℕ, List, [], ◌++◌, codes, decimal}
use Rattle.goal_base.specs.Text.{line_feed, pair_text}
use Rattle.goal_graph.specs.declared.fault.PlanFault.{PlanFault}
use Rattle.goal_graph.specs.declared.fault.PlanFault.TheVariants as plan
use Rattle.goal_parser.specs.declared.faults.TextFault.{TextFault}
use Rattle.goal_parser.specs.declared.faults.TextFault.TheVariants as text
use Rattle.goal_binary.specs.declared.fault.FileFault.{FileFault}
use Rattle.goal_binary.specs.declared.fault.FileFault.TheVariants as file
use Rattle.goal_blocks.specs.declared.gen_fault.GenFault.{GenFault}
use Rattle.goal_blocks.specs.declared.gen_fault.GenFault.TheVariants as gen
use Rattle.sim_classes.specs.declared.fault.MachineFault.{MachineFault}
use Rattle.sim_classes.specs.declared.fault.MachineFault.TheVariants as sayings
use Rattle.goal_cli.specs.declared.answer.Refusal.{Refusal}
use Rattle.goal_cli.specs.declared.answer.Refusal.TheVariants as refusal

-- words and a place
abbrev pub at_text : List ℕ → ℕ → List ℕ
at_text words at = words ++ decimal at

-- The first rule that plans break. What is read of a text or a compiled file is within the limits of counts and values:
-- `read_text` and `decode` never return these two faults. So they have no words; neither has NoMemory.
abbrev pub plan_words : PlanFault → List ℕ
plan_words (plan.Count found limit) = []
plan_words (plan.Value rank op) = []
plan_words (plan.Peer rank op) = codes "plan: peer " ++ pair_text rank op
plan_words (plan.DepRange rank dep) = codes "plan: dependency " ++ pair_text rank dep
plan_words (plan.NoteMisfit rank note) = codes "plan: note " ++ pair_text rank note
plan_words (plan.Cycle rank op) = codes "plan: cycle " ++ pair_text rank op
plan_words plan.NoMemory = []

-- the first fault of a text
abbrev pub text_words : TextFault → List ℕ
text_words (text.Lex at) = at_text (codes "text: lex at ") at
text_words (text.Syntax at) = at_text (codes "text: syntax at ") at
text_words (text.Number at) = at_text (codes "text: number at ") at
text_words (text.Rank at) = at_text (codes "text: rank at ") at
text_words (text.Repeat at) = at_text (codes "text: repeat at ") at
text_words (text.TooMany at) = at_text (codes "text: many at ") at
text_words (text.UnknownLabel at) = at_text (codes "text: label at ") at
text_words (text.Plan fault) = plan_words fault
text_words text.NoMemory = []

-- the first fault of a compiled file
abbrev pub file_words : FileFault → List ℕ
file_words (file.Short at) = at_text (codes "file: short at ") at
file_words file.Magic = codes "file: magic"
file_words (file.Version found) = at_text (codes "file: version ") found
file_words (file.Field at) = at_text (codes "file: field at ") at
file_words (file.Extra at) = at_text (codes "file: extra at ") at
file_words (file.Plan fault) = plan_words fault
file_words file.NoMemory = []

-- the first fault of a machine
abbrev pub machine_words : MachineFault → List ℕ
machine_words (sayings.Syntax at) = at_text (codes "machine: syntax at ") at
machine_words (sayings.Number at) = at_text (codes "machine: number at ") at
machine_words (sayings.Repeat at) = at_text (codes "machine: repeat at ") at
machine_words sayings.NoMemory = []

-- why a collective has no schedule
abbrev pub generator_words : GenFault → List ℕ
generator_words (gen.Ranks limit) = at_text (codes "generator: ranks ") limit
generator_words gen.Root = codes "generator: root"
generator_words gen.NotPowerOfTwo = codes "generator: power of two"
generator_words gen.NoMemory = []

abbrev pub refusal_words : Refusal → List ℕ
refusal_words refusal.TooLong = codes "input longer than 134217728 bytes"
refusal_words (refusal.Text fault) = text_words fault
refusal_words (refusal.File fault) = file_words fault
refusal_words (refusal.Machine fault) = machine_words fault
refusal_words (refusal.MachineRanks ranks) = at_text (codes "machine: ranks ") ranks
refusal_words (refusal.Generator fault) = generator_words fault
refusal_words (refusal.Budget sum) = at_text (codes "budget ") sum

-- the line of a refusal
abbrev pub refused_line : Refusal → List ℕ
refused_line r = codes "goal: refused: " ++ refusal_words r ++ line_feed
