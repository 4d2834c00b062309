use Rattle.std.proofs.Common.{◌≡◌, ◌≤◌, length, take, vec_len, vec_capacity}
use Rattle.sim_match.specs.Packed.{stretches}
use Rattle.sim_match.proofs.Packing.{AreBuilt}
use Rattle.sim_match.proofs.match_lists.MatchLists.new.Given as goal

abbrev pub invariant-loop-capacity : goal.invariant-loop-capacity
invariant-loop-capacity l = record {
  built : AreBuilt l.side (take l.capacity-index l.capacities) (stretches l.spans.items l.end) l.end;
  count : vec_len l.spans ≡ l.capacity-index;
  room : length l.capacities ≤ vec_capacity l.spans;
}
