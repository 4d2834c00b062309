use Rattle.std.proofs.Common.{◌≤◌, length}
use Rattle.goal_blocks.specs.Slots.{added_by}
use Rattle.goal_blocks.specs.SlotRanges.{ranges_by}
use Rattle.goal_blocks.proofs.SlotRows.{IsListedSoFar}
use Rattle.goal_blocks.proofs.slot_table.listed_in_order.Given as goal

-- the operations so far are listed, and with them the notes before the place
abbrev pub invariant-loop-op : goal.invariant-loop-op
invariant-loop-op l =
    IsListedSoFar ranges_by l.notes l.at l.op l.moved_starts.items l.moved.items × IsListedSoFar added_by l.notes l.at l.op l.added_starts.items l.added.items × (l.at ≤ length l.notes) × (l.op ≤ length l.plan.ops)
