use Rattle.std.proofs.Common.{List, length, ap, sym, subst}
use Rattle.sim_resources.specs.declared.station.Station.{Station}
use Rattle.sim_resources.specs.Numbering.{latest_at, ArePlaced}
use Rattle.sim_resources.proofs.Placing.{none_placed_at_start}
use Rattle.sim_resources.proofs.station.Stations.new.Goals as goal

pub invariant_of-result : goal.invariant_of-result
invariant_of-result c = (
  subst (λ (seen : List Station). ArePlaced seen (latest_at c.args.places)) (sym c.new.ensures) (none_placed_at_start (latest_at c.args.places) c.requires),
  ap length (sym c.new.ensures),
)
