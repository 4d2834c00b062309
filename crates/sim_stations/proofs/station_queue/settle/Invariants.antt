use Rattle.std.proofs.Common.{◌+◌}
use Rattle.sim_stations.specs.Stations.{count_ahead}
use Rattle.sim_stations.specs.Kept.{count_late}
use Rattle.sim_stations.proofs.Settling.{IsSettling}
use Rattle.sim_stations.proofs.station_queue.settle.Given as goal

abbrev pub invariant-looks : goal.invariant-looks
invariant-looks g l =
    IsSettling l.initial.ahead l.initial.waiting l.initial.rows l.initial.stands l.initial.steps l.initial.moves l.ahead l.waiting l.rows l.stands l.steps l.moves

abbrev pub decreases-looks : goal.decreases-looks
decreases-looks g l = count_ahead l.stands + count_late l.rows.free l.rows.pairs l.rows.turned
