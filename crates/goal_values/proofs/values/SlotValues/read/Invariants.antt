use Rattle.std.proofs.Common.{◌≡◌, ◌++◌, All, length, map}
use Rattle.goal_blocks.specs.SlotRanges.{slots_in}
use Rattle.goal_values.specs.Kept.{values}
use Rattle.goal_values.specs.Sums.{meaning, IsBelow}
use Rattle.goal_values.proofs.values.SlotValues.read.Given as goal

-- with the values of the remaining slots these are all
abbrev pub invariant-loop-slot : goal.invariant-loop-slot
invariant-loop-slot l = record {
  read : map (meaning l.self.sums) l.terms.items ++ map (values l.self.kept l.rank) l.slots ≡ map (values l.self.kept l.rank) (slots_in l.ranges);
  below : All (IsBelow (length l.self.sums)) l.terms.items;
}

abbrev pub decreases-loop-slot : goal.decreases-loop-slot
decreases-loop-slot l = length l.slots
