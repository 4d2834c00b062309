use Rattle.std.proofs.Common.{◌≡◌, ◌+◌, ◌-◌, ◌≤◌, ◌⊎◌, ◌++◌}
use Rattle.goal_blocks.specs.Slots.{slots_from}
use Rattle.goal_certify.specs.Touches.{moved}
use Rattle.goal_certify.proofs.races.touches.push_moved.Given as goal

-- the slots below this one are moved
abbrev pub invariant-loop-slot : goal.invariant-loop-slot
invariant-loop-slot l = record {
  touches : l.touches.items ≡ l.initial.touches.items ++ moved l.op l.writes (slots_from l.lo (l.slot - l.lo));
  within : (l.slot ≤ l.hi + 1) ⊎ (l.slot ≡ l.lo);
}
