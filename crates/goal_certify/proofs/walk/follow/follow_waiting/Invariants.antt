use Rattle.std.proofs.Common.{drop}
use Rattle.goal_graph.specs.Concerned.{waiting_on}
use Rattle.goal_certify.specs.WalkQueue.{IsNamedAt, IsQueueBut, AreCursors}
use Rattle.goal_certify.proofs.walk.follow.follow_waiting.Given as goal

-- those that are left are due
abbrev pub invariant-loop-need : goal.invariant-loop-need
invariant-loop-need l =
    IsQueueBut l.state.plans l.state.history (λ slot. IsNamedAt l.state.plans (drop l.need-index (waiting_on l.state.plans l.action.op)) l.action.class l.action.op) l.queue × AreCursors l.state.plans l.state.history l.cursors
