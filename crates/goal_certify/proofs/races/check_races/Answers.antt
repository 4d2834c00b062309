use Rattle.std.proofs.Common.{length, ap, arith}
use Rattle.goal_certify.proofs.Table.{empty_zeros}
use Rattle.goal_certify.proofs.OpenPairs.{free_of_races}
use Rattle.goal_certify.proofs.races.check_races.Goals as goal

pub loop-rank-init : goal.loop-rank-init
loop-rank-init c = record {
  touchers = empty_zeros c.new-touchers.result.items 0 c.new-touchers.ensures.items;
  writers = empty_zeros c.new-writers.result.items 0 c.new-writers.ensures.items;
  before = empty_zeros c.new-before.result.items 0 c.new-before.ensures.items;
  none = λ a below race. absurd (omega (arith, below));
}

pub returns-clause-free : goal.returns-clause-free
returns-clause-free c =
    free_of_races c.args.sched.now c.loop-rank.rank (omega (arith, ap length c.plans.ensures.plans)) c.loop-rank.invariant.none
