-- A map whose slots are the operations of a schedule, rank by rank.
use Rattle.std.specs.Prelude.{ℕ, List, Option, length}
use Rattle.goal_graph.specs.Schedule.{Plan}

-- for each slot, from slot 0 on, its key or None; and the number of slots of each rank
pub record Ranked (K : Type 0) : Type 0 where
  pub keys : List (Option K)
  pub sizes : List ℕ

-- the number of operations of a rank
abbrev pub size_of : Plan → ℕ
size_of plan = length plan.ops
