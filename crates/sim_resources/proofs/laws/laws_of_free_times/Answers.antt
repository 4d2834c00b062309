use Rattle.sim_resources.proofs.Worth.{free_times_are_greatest, others_stay, holds_add_up}
use Rattle.sim_resources.proofs.laws.laws_of_free_times.Goals as goal

pub returns : goal.returns
returns c = record {
  greatest = free_times_are_greatest;
  others = others_stay;
  so_far = holds_add_up;
}
