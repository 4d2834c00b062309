use Rattle.std.proofs.Common.{◌-◌, ◌<◌, ◌≡◌, ◌++◌, length}
use Rattle.std.specs.List.{before_first}
use Rattle.goal_graph.specs.declared.action.OpId.{OpId}
use Rattle.goal_graph.specs.Action.{same_op}
use Rattle.sim_cycles.specs.Knots.{way, members}
use Rattle.sim_cycles.specs.Places.{op_at}
use Rattle.sim_cycles.proofs.report.members.Given as goal

-- the members so far, and those that follow
abbrev pub invariant-round : goal.invariant-round
invariant-round l = record {
  inside : l.at < length l.list;
  rest : l.ops.items ++ before_first (λ (y : OpId). same_op y (op_at l.list l.first)) (way l.list (length l.list - l.counter) (op_at l.list l.at)) ≡ members l.list (op_at l.list l.first);
}
