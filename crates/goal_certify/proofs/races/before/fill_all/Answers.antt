use Rattle.std.proofs.Common.{below_more, arith}
use Rattle.goal_graph.specs.Search.{op_id}
use Rattle.goal_certify.proofs.races.before.fill_all.Goals as goal
use Rattle.goal_graph.proofs.ForCallers.{is_op_below}

pub fill-requires-clause-exists : goal.fill-requires-clause-exists
fill-requires-clause-exists c = is_op_below c.args.sched.now (op_id c.args.rank c.loop-op.op) (omega arith)

pub loop-op-preserved : goal.loop-op-preserved
loop-op-preserved c = record {
  rows = c.in_ok-fill.ensures.rows;
  so_far = below_more _ _ (λ k h. c.in_ok-fill.ensures.kept k (c.loop-op.invariant.so_far k h)) c.in_ok-fill.ensures.done;
  path = c.in_ok-fill.ensures.path;
}

pub returns : goal.returns
returns c = record {
  rows = record {
    low = c.loop-op.invariant.rows.low;
    sound = c.loop-op.invariant.rows.sound;
    complete = λ op k few inside b. c.loop-op.invariant.rows.complete op k few (c.loop-op.invariant.so_far op (omega arith)) b;
  };
}
