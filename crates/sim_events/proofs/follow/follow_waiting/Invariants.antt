use Rattle.std.proofs.Common.{drop}
use Rattle.goal_graph.specs.Concerned.{waiting_on}
use Rattle.sim_events.specs.Queue.{IsAwaiting, IsQueueBut}
use Rattle.sim_events.specs.Changes.{AreAtPlaces}
use Rattle.sim_events.proofs.Costs.{IsPaid}
use Rattle.sim_events.proofs.follow.follow_waiting.Given as goal

-- those that are left are due
abbrev pub invariant-loop-need : goal.invariant-loop-need
invariant-loop-need g l =
    IsQueueBut l.state.plans (g.C.Costs.model l.state.costs) l.state.history (IsAwaiting (drop l.need-index (waiting_on l.state.plans l.action.op)) l.action.class l.action.op) l.queue × IsPaid l.fn.queue l.fn.steps l.queue l.steps × AreAtPlaces l.fn.queue l.queue
