use Rattle.goal_parser.proofs.SlotLaws.{IsFrontDefined}
use Rattle.goal_parser.proofs.labels.Labels.first_unknown.Given as goal

abbrev pub invariant-loop-i : goal.invariant-loop-i
invariant-loop-i l = IsFrontDefined l.self.slots l.i
