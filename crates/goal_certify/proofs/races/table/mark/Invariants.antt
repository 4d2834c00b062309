use Rattle.std.proofs.Common.{take}
use Rattle.goal_certify.specs.Table.{AreMarked}
use Rattle.goal_certify.proofs.races.table.mark.Given as goal

-- the touches so far are marked
abbrev pub invariant-loop-touch : goal.invariant-loop-touch
invariant-loop-touch l = AreMarked l.only_writes (take l.touch-index l.touches) l.rows.items
