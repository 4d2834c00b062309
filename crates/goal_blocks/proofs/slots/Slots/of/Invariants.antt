use Rattle.std.proofs.Common.{◌≡◌, ◌≤◌, ◌*◌, ◌^◌, length, take, flat_map}
use Rattle.goal_blocks.specs.Slots.{moved_by}
use Rattle.goal_blocks.specs.SlotRanges.{slots_in}
use Rattle.goal_blocks.proofs.slots.Slots.of.Given as goal

-- the slots of the notes so far, at most 2^32 by each
abbrev pub invariant-loop-note : goal.invariant-loop-note
invariant-loop-note l = record {
  told : slots_in l.ranges.items ≡ flat_map (moved_by l.id.op) (take l.note-index l.note-items);
  few : length (slots_in l.ranges.items) ≤ 2 ^ 32 * l.note-index;
}
