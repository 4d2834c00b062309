use Rattle.std.proofs.Common.{◌*◌, ◌+◌, length, sym, ap, ◌∙◌, arith}
use Rattle.goal_graph.specs.Schedule.{operations}
use Rattle.sim_events.proofs.Changes.{changes_at_most_moves}
use Rattle.sim_events.proofs.Costs.{spent_none}
use Rattle.sim_events.proofs.Queue.{finished_queue_is_empty}
use Rattle.sim_events.proofs.Runs.{stepped_plans, stepped_costs, stepped_length, empty_step_is_finished, step_leaves_fewer, no_action_counts_zero, look_with_action_is_free, look_costs_at_most_three}
use Rattle.sim_events.proofs.pending.run.Goals as goal

pub steps-preserved : goal.steps-preserved
steps-preserved g c =
    let stepped = c.step.ensures.stepped in
    let plans = stepped_plans g.C.Costs.model _ _ c.step.result stepped in
    let more = stepped_length g.C.Costs.model _ _ c.step.result stepped in (
      c.step.ensures.pending,
      plans ∙ c.steps.invariant.1,
      stepped_costs g.C.Costs.model _ _ c.step.result stepped ∙ c.steps.invariant.2,
      λ k few.
          let step = c.step.ensures.counted k (omega (arith, few, ap (λ ps. length (operations ps)) c.steps.invariant.1)) in
          omega (arith, c.steps.invariant.3 k few, step, ap (λ n. n * (18 * k + 29)) more, look_with_action_is_free c.step.result (sym c.is_some.ensures ∙ c.steps-test.true)),
      λ all changed.
          let so_far = c.steps.invariant.4 all changed in
          let now = c.step.ensures.moved so_far.now so_far.changed in
          record { now = now.now; changed = now.changed; counted = omega (arith, so_far.counted, now.counted) },
      omega (arith, c.steps.invariant.5, c.step.ensures.looked, more),
      omega (arith, c.steps.invariant.6, c.step.ensures.needed),
    )

pub steps-smaller : goal.steps-smaller
steps-smaller g c =
    step_leaves_fewer g.C.Costs.model _ _ c.step.result (sym c.is_some.ensures ∙ c.steps-test.true) c.step.ensures.stepped c.step.ensures.run

pub returns-clause-plans : goal.returns-clause-plans
returns-clause-plans g c =
    stepped_plans g.C.Costs.model _ _ c.step.result c.step.ensures.stepped ∙ c.steps.invariant.1

pub returns-clause-costs : goal.returns-clause-costs
returns-clause-costs g c =
    stepped_costs g.C.Costs.model _ _ c.step.result c.step.ensures.stepped ∙ c.steps.invariant.2

pub returns-clause-complete : goal.returns-clause-complete
returns-clause-complete g c = record {
  run = c.step.ensures.run;
  finished = empty_step_is_finished g.C.Costs.model _ _ c.step.result (sym c.is_some.ensures ∙ c.steps-test.false) c.step.ensures.stepped;
}

pub returns-clause-counted : goal.returns-clause-counted
returns-clause-counted g c =
    λ k few.
    let model = g.C.Costs.model in
    let stepped = c.step.ensures.stepped in
    let none = sym c.is_some.ensures ∙ c.steps-test.false in
    let finished = empty_step_is_finished model _ _ c.step.result none stepped in
    let empty = finished_queue_is_empty _ _ _ c.step.new.queue c.step.ensures.pending.0 finished in
    let step = c.step.ensures.counted k (omega (arith, few, ap (λ ps. length (operations ps)) c.steps.invariant.1)) in
    let more = stepped_length model _ _ c.step.result stepped in
    omega (arith, c.steps.invariant.3 k few, step, ap (λ n. n * (18 * k + 29)) more, ap (λ n. n * (18 * k + 29)) (no_action_counts_zero c.step.result none), spent_none k c.step.new.queue empty, look_costs_at_most_three c.step.result)

pub returns-clause-looked : goal.returns-clause-looked
returns-clause-looked g c =
    let more = stepped_length g.C.Costs.model _ _ c.step.result c.step.ensures.stepped in
    omega (arith, c.steps.invariant.5, c.step.ensures.looked, more)

pub returns-clause-moved : goal.returns-clause-moved
returns-clause-moved g c =
    let first = c.requires.pending.1 in
    let so_far = c.steps.invariant.4 first.0 first.1 in
    let now = c.step.ensures.moved so_far.now so_far.changed in
    let most = changes_at_most_moves c.step.new.state.plans (g.C.Costs.model c.step.new.state.costs) c.step.new.state.history c.step.new.queue c.step.ensures.pending.0.of_it.stationed now.now now.changed in
    omega (arith, so_far.counted, now.counted, most)

pub returns-clause-needed : goal.returns-clause-needed
returns-clause-needed g c = omega (arith, c.steps.invariant.6, c.step.ensures.needed)
