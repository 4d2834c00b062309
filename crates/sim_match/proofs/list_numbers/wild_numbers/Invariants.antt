use Rattle.std.proofs.Common.{◌≡◌, ◌≤◌, length, map, take, vec_len, vec_capacity}
use Rattle.goal_graph.specs.declared.action.OpId.{OpId}
use Rattle.sim_match.specs.Patterns.{wild_list}
use Rattle.sim_match.specs.ListNumbers.{coded}
use Rattle.sim_match.proofs.list_numbers.wild_numbers.Given as goal

abbrev pub invariant-loop-id : goal.invariant-loop-id
invariant-loop-id l = record {
  coded : l.numbers.items ≡ map (λ (x : OpId). coded (wild_list l.sched l.order.keys.items l.wild x)) (take l.id-index l.id-items);
  count : vec_len l.numbers ≡ l.id-index;
  room : length l.id-items ≤ vec_capacity l.numbers;
}
