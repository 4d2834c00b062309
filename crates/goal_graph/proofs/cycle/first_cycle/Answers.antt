-- The first rank that has an operation without a depth has the first of all.
use Rattle.std.proofs.Common.{length, ap, arith}
use Rattle.goal_graph.proofs.Plain.{plain-counts}
use Rattle.goal_graph.proofs.Places.{IsOp-located}
use Rattle.goal_graph.proofs.cycle.first_cycle.Goals as goal

pub overflow_cast-ranks : goal.overflow_cast-ranks
overflow_cast-ranks c = rw c.plans.ensures.plans (omega (arith, (plain-counts c.args.tables.now c.plans.ensures.plain).ranks))

pub returns : goal.returns
returns c = λ x is_op.
    let size = ap (λ plans. length plans) c.plans.ensures.plans in
    c.loop-rank.invariant x.rank x.op (omega (arith, size, c.loop-rank-test.false, (IsOp-located c.args.tables.now x is_op).rank_in)) is_op
