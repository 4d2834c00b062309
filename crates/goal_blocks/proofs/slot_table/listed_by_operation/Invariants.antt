use Rattle.std.proofs.Common.{◌≤◌, length, flat_map}
use Rattle.goal_blocks.specs.Slots.{added_by}
use Rattle.goal_blocks.specs.SlotTables.{IsRowed}
use Rattle.goal_blocks.specs.SlotRanges.{ranges_by}
use Rattle.goal_blocks.proofs.slot_table.listed_by_operation.Given as goal

-- the operations so far are listed
abbrev pub invariant-loop-op : goal.invariant-loop-op
invariant-loop-op l =
    IsRowed (λ k. flat_map (ranges_by k) l.plan.notes) l.op l.moved_starts.items l.moved.items × IsRowed (λ k. flat_map (added_by k) l.plan.notes) l.op l.added_starts.items l.added.items × (l.op ≤ length l.plan.ops)
