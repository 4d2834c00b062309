-- What the fields of an engine say of its view.
use Rattle.std.proofs.Common.{◌≡◌, ◌<◌, ◌^◌, subst}
use Rattle.sim_params.specs.Costs.{CostModel}
use Rattle.sim_params.specs.Budget.{budget}
use Rattle.sim_resources.specs.FreeTimes.{Holds}
use Rattle.sim_state.specs.Engine.{RunSoFar}
use Rattle.sim_state.specs.Represents.{AreFreeTimes}

module _ {C : Type 0} (model : C → CostModel) (v w : RunSoFar C) where
  -- the free times, as those of the view
  pub free_at_view : (res : Holds) → v ≡ w → AreFreeTimes v.plans (model v.costs) v.history res → AreFreeTimes w.plans (model w.costs) w.history res
  free_at_view res e = subst (λ (u : RunSoFar C). AreFreeTimes u.plans (model u.costs) u.history res) e

  -- and its budget fits
  pub within_at_view : v ≡ w → budget v.plans (model v.costs) < 2 ^ 63 → budget w.plans (model w.costs) < 2 ^ 63
  within_at_view e = subst (λ (u : RunSoFar C). budget u.plans (model u.costs) < 2 ^ 63) e
