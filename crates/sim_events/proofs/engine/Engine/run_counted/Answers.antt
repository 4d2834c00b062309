use Rattle.std.proofs.Common.{refl, sym, ap, ◌∙◌, subst, arith}
use Rattle.sim_params.specs.Run.{IsRun, IsCompleteRun}
use Rattle.sim_params.proofs.ForCallers.{complete_run_unique}
use Rattle.sim_events.specs.declared.engine.Engine.TheInside.{Inside}
use Rattle.sim_state.specs.Engine.{RunSoFar}
use Rattle.sim_events.specs.Pending.{IsPending}
use Rattle.sim_events.proofs.engine.Engine.run_counted.Given.{Over}
use Rattle.sim_events.proofs.engine.Engine.run_counted.Goals.{After-drop, in-Some, in_default}
use Rattle.sim_events.proofs.engine.Engine.run_counted.Goals as goal

-- without its pending the engine has the run that it had with it
complete : (g : Over) (c : After-drop g) → IsCompleteRun c.match-self.self-inside.state.plans (g.C.Costs.model c.match-self.self-inside.state.costs) c.match-self.self-inside.state.history
complete g c =
    let model = g.C.Costs.model in
    elim c.match-self.branch [
      | in-Some w ↦ subst (λ (v : RunSoFar _). IsCompleteRun v.plans (model v.costs) v.history) (sym (ap (λ (e : Inside _ _). e.state) w.self-inside-is)) w.run_on.ensures.complete
      | in_default w ↦
          let state = c.self.inside.state in
          subst (λ (v : RunSoFar _). IsCompleteRun v.plans (model v.costs) v.history) (sym (ap (λ (e : Inside _ _). e.state) w.self-inside-is)) (record {
            run = subst (λ (v : RunSoFar _). IsRun v.plans (model v.costs) v.history) (sym c.self.view_is) c.known.ensures.run;
            finished = subst (IsPending state.plans (model state.costs) state.history) w.in_default.is c.self.invariant;
          })
    ]

pub returns-clause-complete : goal.returns-clause-complete
returns-clause-complete g c = complete g c

pub returns-clause-only : goal.returns-clause-only
returns-clause-only g c = λ h other. complete_run_unique _ _ h _ other (complete g c)

pub returns-clause-plans : goal.returns-clause-plans
returns-clause-plans g c =
    let was = ap (λ (v : RunSoFar _). v.plans) c.self.view_is in
    elim c.match-self.branch [
      | in-Some w ↦ ap (λ (e : Inside _ _). e.state.plans) w.self-inside-is ∙ w.run_on.ensures.plans ∙ was
      | in_default w ↦ ap (λ (e : Inside _ _). e.state.plans) w.self-inside-is ∙ was
    ]

pub returns-clause-costs : goal.returns-clause-costs
returns-clause-costs g c =
    let was = ap (λ (v : RunSoFar _). v.costs) c.self.view_is in
    elim c.match-self.branch [
      | in-Some w ↦ ap (λ (e : Inside _ _). e.state.costs) w.self-inside-is ∙ w.run_on.ensures.costs ∙ was
      | in_default w ↦ ap (λ (e : Inside _ _). e.state.costs) w.self-inside-is ∙ was
    ]

pub returns-clause-counted : goal.returns-clause-counted
returns-clause-counted g c =
    elim c.match-self.branch [
      | in-Some w ↦ rw (w.steps-is, w.self-inside-is, ← c.self.view_is) w.run_on.ensures.counted
      | in_default w ↦ λ k few. omega (arith, w.steps-is)
    ]

pub returns-clause-looked : goal.returns-clause-looked
returns-clause-looked g c =
    elim c.match-self.branch [
      | in-Some w ↦ rw (w.looks-is, w.self-inside-is) w.run_on.ensures.looked
      | in_default w ↦ omega (arith, w.looks-is)
    ]

pub returns-clause-needed : goal.returns-clause-needed
returns-clause-needed g c =
    elim c.match-self.branch [
      | in-Some w ↦ rw (w.reads-is, w.self-inside-is, ← c.self.view_is) w.run_on.ensures.needed
      | in_default w ↦ rw (w.reads-is, w.self-inside-is, ← c.self.view_is) refl
    ]
