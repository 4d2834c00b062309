use Rattle.std.proofs.Common.{ap, ◌∙◌, arith}
use Rattle.sim_events.specs.Cost.{reads_of_run}
use Rattle.goal_views.proofs.run.run_counted.Goals as goal

pub returns-in-Ok-clause-run : goal.returns-in-Ok-clause-run
returns-in-Ok-clause-run g c =
    let plans = c.run_counted.ensures.plans ∙ c.in-Ok.ensures.plans in
    let costs = c.run_counted.ensures.costs ∙ c.in-Ok.ensures.costs in
    record {
      plans = plans;
      complete = rw (plans, costs) at c.run_counted.ensures.complete;
      only = rw (plans, costs) at c.run_counted.ensures.only;
    }

pub returns-in-Ok-clause-costs : goal.returns-in-Ok-clause-costs
returns-in-Ok-clause-costs g c = ap g.C.Costs.model (c.run_counted.ensures.costs ∙ c.in-Ok.ensures.costs)

pub returns-in-Ok-clause-needed : goal.returns-in-Ok-clause-needed
returns-in-Ok-clause-needed g c =
    let plans = c.run_counted.ensures.plans ∙ c.in-Ok.ensures.plans in
    let needed = rw plans at c.run_counted.ensures.needed in
    omega (arith, needed, ap (reads_of_run c.in-Ok.engine.plans) c.in-Ok.ensures.empty)
