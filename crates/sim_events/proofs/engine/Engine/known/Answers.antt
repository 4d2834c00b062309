use Rattle.std.proofs.Common.{◌<◌, ◌^◌, subst}
use Rattle.goal_graph.specs.Fault.{IsAccepted}
use Rattle.sim_params.specs.Budget.{budget}
use Rattle.sim_params.specs.Laws.{IsWithin}
use Rattle.sim_params.specs.Run.{IsRun}
use Rattle.sim_state.specs.Engine.{RunSoFar}
use Rattle.sim_events.proofs.engine.Engine.known.Goals as goal

pub returns-clause-accepted : goal.returns-clause-accepted
returns-clause-accepted g c = subst (λ (v : RunSoFar _). IsAccepted v.plans) c.self.view_is c.known.ensures.accepted

pub returns-clause-fits : goal.returns-clause-fits
returns-clause-fits g c =
    subst (λ (v : RunSoFar _). budget v.plans (g.C.Costs.model v.costs) < 2 ^ 63) c.self.view_is c.known.ensures.fits

pub returns-clause-run : goal.returns-clause-run
returns-clause-run g c =
    subst (λ (v : RunSoFar _). IsRun v.plans (g.C.Costs.model v.costs) v.history) c.self.view_is c.known.ensures.run

pub returns-clause-times : goal.returns-clause-times
returns-clause-times g c =
    subst (λ (v : RunSoFar _). IsWithin v.plans (g.C.Costs.model v.costs) v.history (budget v.plans (g.C.Costs.model v.costs))) c.self.view_is c.known.ensures.times
