use Rattle.std.proofs.Common.{Contains, drop}
use Rattle.goal_graph.specs.Schedule.{operations}
use Rattle.sim_events.specs.Queue.{IsQueueBut}
use Rattle.sim_events.specs.Changes.{AreAtPlaces}
use Rattle.sim_events.proofs.Costs.{IsPaid}
use Rattle.sim_events.proofs.follow.fill.Given as goal

-- the operations that are left are due
abbrev pub invariant-loop-id : goal.invariant-loop-id
invariant-loop-id g l =
    IsQueueBut l.state.plans (g.C.Costs.model l.state.costs) l.state.history (Contains (drop l.id-index (operations l.state.plans))) l.queue × IsPaid l.fn.queue l.fn.steps l.queue l.steps × AreAtPlaces l.fn.queue l.queue
