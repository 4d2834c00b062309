use Rattle.std.proofs.Common.{◌≡◌, ◌+◌, ◌<◌, ◌≤◌, length, sum, take, slice_index}
use Rattle.goal_graph.specs.Search.{IsSearch}
use Rattle.goal_graph.proofs.cycle.finish.Given as goal

-- the entries of the row so far are subtracted
abbrev pub invariant-loop-waiting : goal.invariant-loop-waiting
invariant-loop-waiting l = record {
  search : IsSearch l.tables l.rank l.missing l.order.items l.done (take l.waiting-index l.waiting-items);
  next : l.done < length l.order.items;
  here : slice_index l.order.items l.done ≡ l.op;
  shrinks : sum l.missing + length l.order.items ≤ sum l.initial.missing + length l.initial.order.items;
}
