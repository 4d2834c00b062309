use Rattle.std.proofs.Common.{◌≡◌, [], length}
use Rattle.goal_graph.specs.Search.{IsSearch}
use Rattle.goal_graph.proofs.cycle.begin.Given as goal

-- the operations so far are counted, and those that need nothing are listed
abbrev pub invariant-loop-op : goal.invariant-loop-op
invariant-loop-op l = record {
  search : IsSearch l.tables l.rank l.missing.items l.order.items 0 [];
  counted : length l.missing.items ≡ l.op;
}
