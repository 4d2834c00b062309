use Rattle.goal_certify.proofs.Stalls.{EndBelow}
use Rattle.goal_certify.proofs.walk.stalls.check_ends.Given as goal

-- the operations so far have an end
abbrev pub invariant-loop-id : goal.invariant-loop-id
invariant-loop-id l = EndBelow l.walker.plans l.walker.history l.id-index
