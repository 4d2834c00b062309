use Rattle.goal_blocks.specs.Faults.{IsWildcard}
use Rattle.goal_certify.proofs.InOrder.{NoneSoFar}
use Rattle.goal_certify.proofs.channels.check_wildcards.Given as goal

-- the operations so far have no such fault
abbrev pub invariant-loop-id : goal.invariant-loop-id
invariant-loop-id l = NoneSoFar l.sched (IsWildcard l.sched) l.id-index
