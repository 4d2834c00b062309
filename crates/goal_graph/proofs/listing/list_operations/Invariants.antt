use Rattle.std.proofs.Common.{◌≡◌, ◌++◌, drop}
use Rattle.goal_graph.specs.Schedule.{operations, places_from}
use Rattle.goal_graph.proofs.listing.list_operations.Given as goal

-- what is listed, followed by the operations of the ranks that are left, is the whole list
abbrev pub invariant-loop-rank : goal.invariant-loop-rank
invariant-loop-rank l = l.ids.items ++ places_from l.rank (drop l.rank l.plans) ≡ operations l.plans
