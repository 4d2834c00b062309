use Rattle.std.proofs.Common.{List, length, ap, arith}
use Rattle.goal_graph.specs.Schedule.{Plan, ops_at}
use Rattle.goal_graph.proofs.ForCallers.{is_op_below}
use Rattle.sim_waits.proofs.RankLemmas.{summed_before_all, summed_with_next_op, summed_after_all}
use Rattle.sim_waits.proofs.ranks.rank_waits.Goals as goal

pub loop-op-init : goal.loop-op-init
loop-op-init g c =
    summed_before_all c.args.engine.now.plans (g.C.Costs.model c.args.engine.now.costs) c.args.engine.now.history c.args.rank

pub wait-requires : goal.wait-requires
wait-requires g c =
    let count = ap (λ (ps : List Plan). length (ops_at ps c.args.rank)) c.sched.ensures in
    is_op_below c.args.engine.now.plans (record { rank = c.args.rank; op = c.loop-op.op }) (omega (arith, count, c.op_count-op-end.ensures.count, c.loop-op-test.true))

pub loop-op-preserved : goal.loop-op-preserved
loop-op-preserved g c =
    let count = ap (λ (ps : List Plan). length (ops_at ps c.args.rank)) c.sched.ensures in
    summed_with_next_op c.args.engine.now.plans (g.C.Costs.model c.args.engine.now.costs) c.args.engine.now.history c.args.rank c.loop-op.op c.loop-op.waits.ended c.loop-op.waits.total c.wait.result c.with-waits.result.ended c.with-waits.result.total c.loop-op.invariant (omega (arith, count, c.op_count-op-end.ensures.count, c.loop-op-test.true)) c.wait.ensures c.with-waits.ensures.ended c.with-waits.ensures.total c.with-waits.ensures.small

pub returns-clause-ended : goal.returns-clause-ended
returns-clause-ended g c =
    let count = ap (λ (ps : List Plan). length (ops_at ps c.args.rank)) c.sched.ensures in
    (summed_after_all c.args.engine.now.plans (g.C.Costs.model c.args.engine.now.costs) c.args.engine.now.history c.args.rank c.loop-op.op c.loop-op.waits.ended c.loop-op.waits.total c.loop-op.invariant (omega (arith, count, c.op_count-op-end.ensures.count, c.loop-op-test.false))).0

pub returns-clause-total : goal.returns-clause-total
returns-clause-total g c =
    let count = ap (λ (ps : List Plan). length (ops_at ps c.args.rank)) c.sched.ensures in
    (summed_after_all c.args.engine.now.plans (g.C.Costs.model c.args.engine.now.costs) c.args.engine.now.history c.args.rank c.loop-op.op c.loop-op.waits.ended c.loop-op.waits.total c.loop-op.invariant (omega (arith, count, c.op_count-op-end.ensures.count, c.loop-op-test.false))).1
