use Rattle.std.proofs.Common.{◌≤◌}
use Rattle.goal_certify.specs.WalkQueue.{IsQueueBut}
use Rattle.goal_certify.proofs.walk.follow.fill.Given as goal

-- the operations that are left are due
abbrev pub invariant-loop-id : goal.invariant-loop-id
invariant-loop-id l =
    IsQueueBut l.state.plans l.state.history (λ slot y. l.id-index ≤ slot) l.queue
