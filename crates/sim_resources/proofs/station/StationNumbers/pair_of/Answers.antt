use Rattle.sim_resources.proofs.Placed.{read_pair_is_pair_of}
use Rattle.sim_resources.proofs.station.StationNumbers.pair_of.Goals as goal

pub returns : goal.returns
returns c =
    read_pair_is_pair_of c.args.sched.now c.args.self.now c.requires.numbered c.args.id c.index.result c.index-number.result.now c.index-2.result.now c.index.ensures.index c.index.ensures.below c.index-number.ensures c.index-2.ensures
