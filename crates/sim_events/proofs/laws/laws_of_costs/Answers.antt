use Rattle.sim_events.proofs.Shared.{moves_are_few, runs_are_cheap}
use Rattle.sim_events.proofs.laws.laws_of_costs.Goals as goal

pub returns : goal.returns
returns c = record { few = moves_are_few; cheap = runs_are_cheap }
