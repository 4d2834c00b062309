use Rattle.std.proofs.Common.{◌≡◌, ◌≤◌, [], length, map, take, vec_len, vec_capacity}
use Rattle.sim_state.specs.Represents.{entry_known}
use Rattle.sim_state.proofs.entry.first_entries.Given as goal

abbrev pub invariant-loop-id : goal.invariant-loop-id
invariant-loop-id g l = record {
  told : l.entries.items ≡ map (entry_known l.sched (g.C.Costs.model l.costs) []) (take l.id-index l.id-items);
  count : vec_len l.entries ≡ l.id-index;
  room : length l.id-items ≤ vec_capacity l.entries;
}
