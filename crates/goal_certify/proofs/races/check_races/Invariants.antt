use Rattle.goal_certify.specs.Table.{AreEmpty}
use Rattle.goal_certify.proofs.OpenPairs.{NoRaceBelow}
use Rattle.goal_certify.proofs.races.check_races.Given as goal

-- no race in the ranks so far
abbrev pub invariant-loop-rank : goal.invariant-loop-rank
invariant-loop-rank l = record {
  touchers : AreEmpty l.touchers.items;
  writers : AreEmpty l.writers.items;
  before : AreEmpty l.before.items;
  none : NoRaceBelow l.sched l.rank;
}
