use Rattle.std.proofs.Common.{ℕ, ◌++◌, List, ap, arith}
use Rattle.goal_blocks.specs.SlotRanges.{slots_in}
use Rattle.goal_blocks.proofs.SlotRanges.{no_slots}
use Rattle.goal_blocks.proofs.slots.SlotIter.new.Goals as goal

pub returns : goal.returns
returns c = ap (λ (ks : List ℕ). ks ++ slots_in c.args.ranges.now) (no_slots 0 0 (omega arith))
