use Rattle.std.proofs.Common.{◌≡◌, ◌≤◌, ◌+◌, ◌-◌, ◌++◌, length, drop}
use Rattle.goal_blocks.specs.Values.{merge}
use Rattle.goal_blocks.specs.Stored.{IsSorted}
use Rattle.goal_blocks.proofs.merging.merged.Given as goal

-- the remaining contributions, merged, complete the sum
abbrev pub invariant-loop-i : goal.invariant-loop-i
invariant-loop-i l =
    (l.i ≤ length l.left) × (l.j ≤ length l.right) × IsSorted (drop l.i l.left) × IsSorted (drop l.j l.right) × (l.sum.items ++ merge (drop l.i l.left) (drop l.j l.right) ≡ merge l.left l.right)

abbrev pub decreases-loop-i : goal.decreases-loop-i
decreases-loop-i l = (length l.left - l.i) + (length l.right - l.j)
