use Rattle.std.proofs.Common.{◌≡◌, take}
use Rattle.sim_stations.specs.Rows.{sides}
use Rattle.sim_stations.proofs.rows.sides.Given as goal

abbrev pub invariant-stations : goal.invariant-stations
invariant-stations l = l.numbers.items ≡ sides (take l.pair-index l.pairs)
