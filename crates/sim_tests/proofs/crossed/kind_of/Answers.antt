use Rattle.std.proofs.Common.{refl, arith}
use Rattle.goal_graph.proofs.ForCallers.{is_op_below, kind_from_op}
use Rattle.sim_tests.proofs.crossed.kind_of.Goals as goal

pub op-requires : goal.op-requires
op-requires c = is_op_below c.args.sched.now c.args.id (omega arith)

pub returns : goal.returns
returns c = kind_from_op c.args.sched.now c.args.id c.op.result.now _ c.op.ensures.op refl
