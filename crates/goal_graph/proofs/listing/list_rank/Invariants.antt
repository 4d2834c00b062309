use Rattle.std.proofs.Common.{◌≡◌, ◌+◌, ◌≤◌, ◌++◌, drop, length, vec_len, vec_capacity}
use Rattle.goal_graph.specs.Schedule.{places_of_rank}
use Rattle.goal_graph.proofs.listing.list_rank.Given as goal

-- what is listed, followed by what is left, is what was there and the operations of the rank; there is room for what is
-- left
abbrev pub invariant-loop-op : goal.invariant-loop-op
invariant-loop-op l = record {
  listed : l.ids.items ++ places_of_rank l.rank l.op (drop l.op l.ops) ≡ l.fn.ids.items ++ places_of_rank l.rank 0 l.ops;
  room : vec_len l.ids + length l.ops ≤ vec_capacity l.ids + l.op;
}
