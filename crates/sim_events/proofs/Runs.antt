-- How far a run can go, and how it ends.
use Rattle.std.proofs.Common.{◌≡◌, ◌*◌, ◌-◌, ◌+◌, ◌<◌, ◌≤◌, true, false, length, Option, Some, None, is_some, refl, sym, ap, subst, arith}
use Rattle.goal_graph.specs.declared.action.Timed.{Timed}
use Rattle.goal_graph.specs.Schedule.{operations}
use Rattle.sim_params.specs.Costs.{CostModel}
use Rattle.sim_params.specs.Run.{IsRun, IsFinished}
use Rattle.sim_params.proofs.ForCallers.{run_length}
use Rattle.sim_events.specs.Comparisons.{count_of, last_look}
use Rattle.sim_state.specs.Engine.{RunSoFar}
use Rattle.sim_events.specs.Pending.{IsStepped}

module _ {C : Type 0} (model : C → CostModel) (old new : RunSoFar C) where
  -- a step changes only the history
  pub stepped_plans : (r : Option Timed) → IsStepped model old new r → new.plans ≡ old.plans
  stepped_plans None s = ap (λ (v : RunSoFar C). v.plans) s.1
  stepped_plans (Some a) s = ap (λ (v : RunSoFar C). v.plans) s.1

  pub stepped_costs : (r : Option Timed) → IsStepped model old new r → new.costs ≡ old.costs
  stepped_costs None s = ap (λ (v : RunSoFar C). v.costs) s.1
  stepped_costs (Some a) s = ap (λ (v : RunSoFar C). v.costs) s.1

  pub stepped_length : (r : Option Timed) → IsStepped model old new r → length new.history ≡ count_of r + length old.history
  stepped_length None s = omega (arith, ap (λ (v : RunSoFar C). length v.history) s.1)
  stepped_length (Some a) s = omega (arith, ap (λ (v : RunSoFar C). length v.history) s.1)

  -- with each step fewer are left
  pub step_leaves_fewer : (r : Option Timed) → is_some r ≡ true → IsStepped model old new r → IsRun new.plans (model new.costs) new.history → 3 * length (operations new.plans) - length new.history < 3 * length (operations old.plans) - length old.history
  step_leaves_fewer None t s run = absurd (cc)
  step_leaves_fewer (Some a) t s run =
      let most = run_length new.plans (model new.costs) new.history run in
      let plans = ap (λ (v : RunSoFar C). length (operations v.plans)) s.1 in
      let history = ap (λ (v : RunSoFar C). length v.history) s.1 in
      omega (arith, most, plans, history)

  -- where a step finds nothing, nothing is possible
  pub empty_step_is_finished : (r : Option Timed) → is_some r ≡ false → IsStepped model old new r → IsFinished new.plans (model new.costs) new.history
  empty_step_is_finished (Some a) t s = absurd (cc)
  empty_step_is_finished None t s = subst (λ (v : RunSoFar C). IsFinished v.plans (model v.costs) v.history) (sym s.1) s.0

-- a step that returns None counts no action
pub no_action_counts_zero : (r : Option Timed) → is_some r ≡ false → count_of r ≡ 0
no_action_counts_zero None t = refl
no_action_counts_zero (Some a) t = absurd (cc)

-- a look that finds an action costs no more, and one that finds none costs what it does
pub look_with_action_is_free : (r : Option Timed) → is_some r ≡ true → last_look r ≡ 0
look_with_action_is_free None t = absurd (cc)
look_with_action_is_free (Some a) t = refl

pub look_costs_at_most_three : (r : Option Timed) → last_look r ≤ 3
look_costs_at_most_three None = omega arith
look_costs_at_most_three (Some a) = omega arith
