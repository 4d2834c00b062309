use Rattle.std.proofs.Common.{◌≡◌, ◌≤◌, length, map, take, vec_len, vec_capacity}
use Rattle.goal_graph.specs.declared.action.OpId.{OpId}
use Rattle.sim_match.specs.Patterns.{own_list}
use Rattle.sim_match.specs.ListNumbers.{coded}
use Rattle.sim_match.specs.ListOrder.{AreGiven, HaveNumbers}
use Rattle.sim_match.proofs.list_numbers.numbers_in_turn.Given as goal

abbrev pub invariant-loop-id : goal.invariant-loop-id
invariant-loop-id l = record {
  given : AreGiven l.patterns l.order;
  each : HaveNumbers l.sched l.patterns l.order.keys.items (take l.id-index l.id-items);
  coded : l.numbers.items ≡ map (λ (x : OpId). coded (own_list l.sched l.order.keys.items x)) (take l.id-index l.id-items);
  few : l.order.count ≤ l.id-index;
  count : vec_len l.numbers ≡ l.id-index;
  room : length l.id-items ≤ vec_capacity l.numbers;
}
