use Rattle.std.proofs.Common.{take}
use Rattle.goal_blocks.specs.RankSlots.{AreTabled}
use Rattle.goal_blocks.proofs.slot_table.SlotTable.new.Given as goal

-- the tables of the ranks so far
abbrev pub invariant-loop-plan : goal.invariant-loop-plan
invariant-loop-plan l = AreTabled (take l.plan-index l.plan-items) l.ranks.items
