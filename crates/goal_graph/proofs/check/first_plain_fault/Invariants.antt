use Rattle.std.proofs.Common.{◌≡◌, All, length, take, drop}
use Rattle.goal_graph.specs.Fault.{first_fault, rank_fault}
use Rattle.goal_graph.specs.Widths.{IsPlanInWidth}
use Rattle.goal_graph.proofs.check.first_plain_fault.Given as goal

-- the ranks so far have no fault
abbrev pub invariant-loop-rank : goal.invariant-loop-rank
invariant-loop-rank l = record {
  none_yet : first_fault (rank_fault (length l.plans)) l.rank (drop l.rank l.plans) ≡ first_fault (rank_fault (length l.plans)) 0 l.plans;
  widths : All IsPlanInWidth (take l.rank l.plans);
}
