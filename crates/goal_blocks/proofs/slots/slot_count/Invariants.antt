use Rattle.std.proofs.Common.{◌≡◌, ◌-◌, ◌^◌, min, length, take}
use Rattle.goal_blocks.specs.SlotRanges.{slots_in}
use Rattle.goal_blocks.proofs.slots.slot_count.Given as goal

-- the slots of the ranges so far are counted
abbrev pub invariant-loop-range : goal.invariant-loop-range
invariant-loop-range l = l.count ≡ min (length (slots_in (take l.range-index l.ranges))) (2 ^ 64 - 1)
