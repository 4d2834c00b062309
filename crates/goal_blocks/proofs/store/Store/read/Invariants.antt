use Rattle.std.proofs.Common.{◌≡◌, ◌++◌, length, map}
use Rattle.goal_blocks.specs.Stored.{values, lists_of}
use Rattle.goal_blocks.proofs.store.Store.read.Given as goal

-- with the values of the slots that are left these are all
abbrev pub invariant-loop-slot : goal.invariant-loop-slot
invariant-loop-slot l = lists_of l.copies.items ++ map (values l.self l.rank) l.left ≡ map (values l.self l.rank) l.slots

abbrev pub decreases-loop-slot : goal.decreases-loop-slot
decreases-loop-slot l = length l.left
