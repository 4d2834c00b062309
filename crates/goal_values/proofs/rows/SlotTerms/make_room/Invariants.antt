use Rattle.std.proofs.Common.{◌+◌, ◌-◌, length}
use Rattle.goal_values.specs.Rows.{HasSameSlots}
use Rattle.goal_values.proofs.SlotRows.{listed}
use Rattle.goal_values.proofs.rows.SlotTerms.make_room.Given as goal

-- each slot has the same as before
abbrev pub invariant-loop-self : goal.invariant-loop-self
invariant-loop-self l = HasSameSlots (listed l.initial.self-inside.of_ranks.items) (listed l.self-inside.of_ranks.items)

abbrev pub decreases-loop-self : goal.decreases-loop-self
decreases-loop-self l = l.rank + 1 - length l.self-inside.of_ranks.items
