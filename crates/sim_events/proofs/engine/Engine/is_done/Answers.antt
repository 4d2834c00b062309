use Rattle.std.proofs.Common.{subst}
use Rattle.sim_events.specs.Pending.{IsPending}
use Rattle.sim_events.proofs.Steps.{finished_iff_queue_empty}
use Rattle.sim_events.proofs.engine.Engine.is_done.Goals as goal

pub returns-in-Some : goal.returns-in-Some
returns-in-Some g c =
    let state = c.self.inside.state in
    let pending = subst (IsPending state.plans (g.C.Costs.model state.costs) state.history) c.in-Some.is c.self.invariant in
    finished_iff_queue_empty g.C.Costs.model _ _ _ _ c.self.view_is c.known.ensures.run pending.0 c.is_empty.ensures
