use Rattle.std.proofs.Common.{◌≡◌, ◌≤◌, vec_len, vec_capacity}
use Rattle.sim_match.proofs.list_numbers.Trails.of.Given as goal

abbrev pub invariant-loop-rank : goal.invariant-loop-rank
invariant-loop-rank l = record {
  count : vec_len l.sends ≡ l.rank;
  room : l.ranks ≤ vec_capacity l.sends;
}
