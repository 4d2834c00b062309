use Rattle.std.proofs.Common.{◌≡◌, take}
use Rattle.goal_graph.specs.Fault.{op_count}
use Rattle.goal_graph.specs.Tables.{AreStarts}
use Rattle.goal_graph.proofs.tables.starts_of.Given as goal

-- the places of the ranks so far
abbrev pub invariant-loop-plan : goal.invariant-loop-plan
invariant-loop-plan l = record {
  counted : l.count ≡ op_count (take l.plan-index l.plans);
  starts : AreStarts (take l.plan-index l.plans) l.starts.items;
}
