use Rattle.std.proofs.Common.{length, ap, arith}
use Rattle.goal_views.proofs.KnotLemmas.{few_stuck, names_listed}
use Rattle.goal_views.proofs.knots.show_knots.Goals as goal

pub knots-requires-clause-short : goal.knots-requires-clause-short
knots-requires-clause-short g c =
    let engine = c.args.engine.now in
    omega (arith, ap length c.deref.ensures.value, ap length c.in_ok-stuck.ensures.list, few_stuck c.args.sched.now (g.C.Costs.model engine.costs) engine.history, c.count-at_most.ensures.count, c.count-at_most.ensures.small)

pub knots-requires-clause-listed : goal.knots-requires-clause-listed
knots-requires-clause-listed g c = rw c.deref.ensures.value (names_listed c.in_ok-stuck.stuck.items c.in_ok-stuck.ensures.named)

pub knots-requires-clause-order : goal.knots-requires-clause-order
knots-requires-clause-order g c = rw c.deref.ensures.value c.in_ok-stuck.ensures.order
