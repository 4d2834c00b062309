use Rattle.sim_resources.specs.Numbering.{IsPlain}
use Rattle.std.proofs.Common.{subst, sym}
use Rattle.sim_resources.proofs.Placing.{plain_side}
use Rattle.sim_resources.proofs.station.pair_of.Goals as goal

pub number-requires-2-clause-plain : goal.number-requires-2-clause-plain
number-requires-2-clause-plain c = subst IsPlain (sym c.side_alone.ensures) (plain_side c.args.station c.requires.plain)
