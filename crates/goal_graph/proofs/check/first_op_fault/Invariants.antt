use Rattle.std.proofs.Common.{◌≡◌, All, take, drop}
use Rattle.goal_graph.specs.Fault.{op_fault, first_fault}
use Rattle.goal_graph.specs.Widths.{IsOpInWidth}
use Rattle.goal_graph.proofs.check.first_op_fault.Given as goal

-- the operations so far have no fault
abbrev pub invariant-loop-number : goal.invariant-loop-number
invariant-loop-number l = record {
  none_yet : first_fault (op_fault l.ranks l.rank) l.number (drop l.number l.ops) ≡ first_fault (op_fault l.ranks l.rank) 0 l.ops;
  widths : All IsOpInWidth (take l.number l.ops);
}
