use Rattle.std.proofs.Common.{ℕ, ◌<◌}
use Rattle.goal_graph.specs.Fault.{IsOp, HasDepth}
use Rattle.goal_graph.specs.Search.{op_id}
use Rattle.goal_graph.proofs.cycle.first_cycle.Given as goal

-- each operation of the ranks so far has a depth
abbrev pub invariant-loop-rank : goal.invariant-loop-rank
invariant-loop-rank l = (rank op : ℕ) → rank < l.rank → IsOp l.tables (op_id rank op) → HasDepth l.tables (op_id rank op)
