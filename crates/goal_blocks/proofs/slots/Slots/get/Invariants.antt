use Rattle.std.proofs.Common.{◌≡◌, ◌<◌, length, drop, get_or}
use Rattle.goal_blocks.specs.SlotRanges.{slots_in}
use Rattle.goal_blocks.proofs.slots.Slots.get.Given as goal

-- the slot is one of the ranges that are left
abbrev pub invariant-loop-range : goal.invariant-loop-range
invariant-loop-range l = record {
  inside : l.left < length (slots_in (drop l.range-index l.range-items));
  same : get_or (slots_in (drop l.range-index l.range-items)) l.left 0 ≡ get_or l.self l.i 0;
}
