use Rattle.std.proofs.Common.{◌≡◌, take, sum}
use Rattle.sim_stations.specs.AtSlots.{AreCounts}
use Rattle.sim_stations.proofs.groups.count.Given as goal

abbrev pub invariant-slots : goal.invariant-slots
invariant-slots l = record {
  counted : AreCounts (take l.number-index l.numbers) l.counts;
  all : sum l.counts ≡ l.number-index;
}
