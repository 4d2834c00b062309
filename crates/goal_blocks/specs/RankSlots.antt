-- The slots and sums of the operations, in two lists for each rank.
use Rattle.std.specs.Prelude.{ℕ, ◌≡◌, ◌<◌, List, length, flat_map, slice_index_or}
use Rattle.goal_graph.specs.Schedule.{Plan}
use Rattle.goal_blocks.specs.declared.slot_table.RankSlots.{RankSlots}
use Rattle.goal_blocks.specs.Slots.{added_by}
use Rattle.goal_blocks.specs.SlotTables.{IsRowed}
use Rattle.goal_blocks.specs.SlotRanges.{ranges_by}

-- the ranges of slots that each operation of a rank moves, and its sums
pub record AreListed (plan : Plan) (listed : RankSlots) : Type 0 where
  pub moves : IsRowed (λ k. flat_map (ranges_by k) plan.notes) (length plan.ops) listed.moved_starts.items listed.moved.items
  pub sums : IsRowed (λ k. flat_map (added_by k) plan.notes) (length plan.ops) listed.added_starts.items listed.added.items

-- the same for all ranks
pub record AreTabled (plans : List Plan) (ranks : List RankSlots) : Type 0 where
  pub one_each : length ranks ≡ length plans
  pub each : (r : ℕ) (p : Plan) (v : RankSlots) → r < length plans → AreListed (slice_index_or plans r p) (slice_index_or ranks r v)
