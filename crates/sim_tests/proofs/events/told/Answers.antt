use Rattle.std.proofs.Common.{◌≡◌, ◌<◌, List, Some, length, slice_get, refl, sym, ap, ◌∙◌, subst, arith}
use Rattle.goal_graph.specs.declared.plan.Op.{Op}
use Rattle.std.proofs.lemmas.Option.{slice_get_read}
use Rattle.goal_graph.specs.Schedule.{Plan}
use Rattle.goal_graph.proofs.ForCallers.{is_op_below, ops_at_some}
use Rattle.sim_tests.proofs.events.told.Goals as goal

pub record-start-requires : goal.record-start-requires
record-start-requires g c =
    let plans = c.plans-plans.ensures.plans ∙ c.sched.ensures in
    let rank : c.args.rank < length c.plans-plans.result.now = omega arith in
    let here : slice_get c.args.engine.now.plans c.args.rank ≡ Some c.index-plans-rank.result = subst (λ ps. slice_get ps c.args.rank ≡ Some c.index-plans-rank.result) plans (slice_get_read _ _ c.args.rank c.index-plans-rank.result refl rank c.index-plans-rank.is) in
    let ops = ap (λ (p : Plan). length p.ops) c.plan.view_is in
    let op : c.args.op < length c.index-plans-rank.result.ops = omega (arith, ops, c.len.ensures, c.plan.inside.ops.ok.0) in
    let below = subst (λ (os : List Op). c.args.op < length os) (sym (ops_at_some c.args.engine.now.plans c.args.rank c.index-plans-rank.result here)) op in
    is_op_below c.args.engine.now.plans (record { rank = c.args.rank; op = c.args.op }) below
