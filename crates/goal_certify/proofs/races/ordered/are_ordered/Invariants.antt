use Rattle.std.proofs.Common.{All, take}
use Rattle.goal_certify.specs.Races.{IsOrdered}
use Rattle.goal_certify.proofs.races.ordered.are_ordered.Given as goal

-- the touches so far are ordered
abbrev pub invariant-loop-touch : goal.invariant-loop-touch
invariant-loop-touch l =
    All (IsOrdered l.before l.touchers l.writers) (take l.touch-index l.touches)
