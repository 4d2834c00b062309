use Rattle.std.proofs.Common.{arith}
use Rattle.sim_state.proofs.Places.{rank_exists, number_below}
use Rattle.sim_state.proofs.key.compact.Goals as goal

pub new-requires-clause-rank : goal.new-requires-clause-rank
new-requires-clause-rank c =
    omega (arith, rank_exists c.args.sched.now c.args.action.op c.requires, c.plans-plans.ensures.counts.ranks)

pub new-requires-clause-number : goal.new-requires-clause-number
new-requires-clause-number c =
    omega (arith, number_below c.args.sched.now c.args.action.op c.requires, c.plans-plans.ensures.counts.ops)
