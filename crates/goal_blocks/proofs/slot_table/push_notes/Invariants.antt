use Rattle.std.proofs.Common.{◌≤◌, ◌-◌, length}
use Rattle.goal_blocks.specs.Slots.{added_by}
use Rattle.goal_blocks.specs.SlotTables.{IsRowPushed}
use Rattle.goal_blocks.specs.SlotRanges.{ranges_by}
use Rattle.goal_blocks.proofs.slot_table.push_notes.Given as goal

-- the notes before the place are pushed
abbrev pub invariant-loop-next : goal.invariant-loop-next
invariant-loop-next l =
    IsRowPushed ranges_by l.notes l.at l.next l.op l.initial.moved.items l.moved.items × IsRowPushed added_by l.notes l.at l.next l.op l.initial.added.items l.added.items × (l.next ≤ length l.notes)

abbrev pub decreases-loop-next : goal.decreases-loop-next
decreases-loop-next l = length l.notes - l.next
