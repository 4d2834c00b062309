use Rattle.std.proofs.Common.{◌≡◌, ◌≤◌, ℕ, take, slice_index, sum}
use Rattle.sim_queue.specs.Groups.{AreHomes}
use Rattle.sim_stations.proofs.slot_groups.homes.Given as goal

abbrev pub invariant-slots : goal.invariant-slots
invariant-slots l = record {
  given : AreHomes (take l.number-index l.numbers) l.homes.items l.counts;
  few : (group : ℕ) → slice_index l.counts group ≤ l.number-index;
  all : sum l.counts ≡ l.number-index;
}
