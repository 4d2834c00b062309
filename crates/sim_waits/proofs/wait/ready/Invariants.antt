use Rattle.std.proofs.Common.{◌≡◌, drop}
use Rattle.goal_graph.specs.Schedule.{needs}
use Rattle.sim_events.specs.Enabled.{ready_known}
use Rattle.sim_events.proofs.ForCallers.{ready_from}
use Rattle.sim_waits.proofs.wait.ready.Given as goal

-- the ready time is the maximum of the greatest time so far and what is left to read
abbrev pub invariant-loop-need : goal.invariant-loop-need
invariant-loop-need g l =
    ready_from l.engine.plans (g.C.Costs.model l.engine.costs) l.engine.history l.id l.ready (drop l.need-index (needs l.engine.plans l.id)) ≡ ready_known l.engine.plans (g.C.Costs.model l.engine.costs) l.engine.history l.id
