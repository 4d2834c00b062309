use Rattle.sim_stations.proofs.Moves.{few_changes}
use Rattle.sim_stations.proofs.laws.laws_of_changes.Goals as goal

pub returns : goal.returns
returns c = record { few = few_changes }
