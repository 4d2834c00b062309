use Rattle.std.proofs.Common.{◌+◌, ◌-◌, ◌≤◌, [], length, sum}
use Rattle.goal_graph.specs.Search.{IsSearch, CoversRank}
use Rattle.goal_graph.proofs.cycle.search_rank.Given as goal

-- the first operations in the order are finished
abbrev pub invariant-loop-done : goal.invariant-loop-done
invariant-loop-done l = record {
  search : IsSearch l.tables l.rank l.search.missing.items l.search.order.items l.done [];
  covers : CoversRank l.tables l.rank l.search.missing.items;
  found : l.done ≤ length l.search.order.items;
}

-- each subtracted entry lists at most one more operation
abbrev pub decreases-loop-done : goal.decreases-loop-done
decreases-loop-done l = sum l.search.missing.items + length l.search.order.items - l.done
