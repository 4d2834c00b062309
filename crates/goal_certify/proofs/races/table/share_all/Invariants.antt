use Rattle.std.proofs.Common.{take}
use Rattle.goal_certify.specs.Table.{AreShared}
use Rattle.goal_certify.proofs.races.table.share_all.Given as goal

-- the touches so far are shared
abbrev pub invariant-loop-touch : goal.invariant-loop-touch
invariant-loop-touch l = AreShared l.touchers l.writers (take l.touch-index l.touches) l.rows
