use Rattle.goal_graph.specs.declared.action.OpId.{OpId}
use Rattle.goal_blocks.specs.Faults.{AreDouble}
use Rattle.goal_certify.proofs.InOrder.{NoneSoFar}
use Rattle.goal_certify.proofs.channels.check_doubles.Given as goal

-- the operations so far have no such fault
abbrev pub invariant-loop-id : goal.invariant-loop-id
invariant-loop-id l = NoneSoFar l.sched (λ x. (first : OpId) × AreDouble l.sched first x) l.id-index
