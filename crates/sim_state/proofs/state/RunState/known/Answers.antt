use Rattle.std.proofs.Common.{subst}
use Rattle.sim_params.specs.Budget.{budget}
use Rattle.sim_params.specs.Laws.{IsWithin}
use Rattle.sim_params.proofs.ForCallers.{within_budget, run_is_each_possible}
use Rattle.sim_state.specs.Engine.{RunSoFar}
use Rattle.sim_state.proofs.state.RunState.known.Goals as goal

pub returns-clause-times : goal.returns-clause-times
returns-clause-times g c =
    subst (λ (v : RunSoFar _). IsWithin v.plans (g.C.Costs.model v.costs) v.history (budget v.plans (g.C.Costs.model v.costs))) c.self.view_is (within_budget _ _ _ (run_is_each_possible _ _ _ c.self.invariant.run))
