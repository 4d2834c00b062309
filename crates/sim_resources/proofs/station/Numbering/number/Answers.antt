use Rattle.std.proofs.Common.{sym}
use Rattle.sim_resources.specs.Stations.{station_of}
use Rattle.sim_resources.proofs.Numbering.{station_rank}
use Rattle.sim_resources.proofs.Placing.{seen_station_has_number}
use Rattle.sim_resources.proofs.station.Numbering.number.Goals as goal

pub returns-in-Some-clause-number : goal.returns-in-Some-clause-number
returns-in-Some-clause-number c =
    let x = c.args.id in
    let station = station_of x c.args.op.now in
    seen_station_has_number c.args.self.now.stations station c.in-Some.number (c.in-Some.ensures.some station (c.place_of-at.ensures.plain x) (station_rank x c.args.op.now) (sym (c.place_of-at.ensures.is x)))
