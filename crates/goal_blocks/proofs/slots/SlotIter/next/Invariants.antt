use Rattle.std.proofs.Common.{◌≡◌, ◌≤◌, ◌^◌, ◌-◌, ◌++◌, length}
use Rattle.goal_blocks.specs.Slots.{slots_from}
use Rattle.goal_blocks.specs.SlotRanges.{slots_in}
use Rattle.goal_blocks.proofs.slots.SlotIter.next.Given as goal

-- the same slots are left
abbrev pub invariant-loop-self : goal.invariant-loop-self
invariant-loop-self l = record {
  left :
      slots_from l.self-inside.next (l.self-inside.end - l.self-inside.next) ++ slots_in l.self-inside.ranges.now
      ≡ slots_from l.initial.self-inside.next (l.initial.self-inside.end - l.initial.self-inside.next) ++ slots_in l.initial.self-inside.ranges.now;
  low : l.self-inside.end ≤ 2 ^ 32;
}

abbrev pub decreases-loop-self : goal.decreases-loop-self
decreases-loop-self l = length l.self-inside.ranges.now
