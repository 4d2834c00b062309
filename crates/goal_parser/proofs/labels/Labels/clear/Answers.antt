use Rattle.std.proofs.Common.{rules}
use Rattle.goal_parser.proofs.SlotLaws.{Keeps-empty}
use Rattle.goal_parser.proofs.labels.Labels.clear.Goals as goal

pub returns-clause-kept : goal.returns-clause-kept
returns-clause-kept c = Keeps-empty c.clear.new.self (search rules)
