use Rattle.goal_certify.proofs.EndSearch.{AreCollected}
use Rattle.goal_certify.proofs.ends.Ends.of.Given as goal

-- the ends of the operations so far
abbrev pub invariant-loop-id : goal.invariant-loop-id
invariant-loop-id l = AreCollected l.sched l.id-index l.sorted.items
