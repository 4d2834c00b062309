use Rattle.goal_certify.proofs.Table.{LeftFrom}
use Rattle.goal_certify.proofs.races.table.wipe.Given as goal

-- rows of later touches alone are left
abbrev pub invariant-loop-touch : goal.invariant-loop-touch
invariant-loop-touch l = LeftFrom l.touches l.touch-index l.rows
