use Rattle.std.proofs.Common.{[], ◌++◌, length, unwrap_or, ap, subst, ◌∙◌, arith}
use Rattle.sim_params.specs.Costs.{CostModel}
use Rattle.sim_params.specs.Stuck.{is_stuck}
use Rattle.sim_events.specs.Cost.{cost_of_run, reads_of_run}
use Rattle.goal_views.specs.Views.{Shows}
use Rattle.goal_views.proofs.run.show_run.Goals as goal

pub returns-in-Ok-show-clause-shown : goal.returns-in-Ok-show-clause-shown
returns-in-Ok-show-clause-shown g c =
    let r = c.in-Ok.ensures.run in
    let h = c.in-Ok.engine.history in
    let run = c.in-Ok-show.run' in
    record {
      history = h;
      complete = r.complete;
      only = r.only;
      shown =
          subst (λ (costs : CostModel). Shows c.args.view c.args.sched.now costs h (run.head.items ++ (unwrap_or run.lines [] ++ run.tail.items)))
          c.in-Ok.ensures.costs c.in-Ok-show.ensures.shown;
      stuck_is = c.in-Ok-show.ensures.stuck ∙ ap (λ (costs : CostModel). is_stuck c.args.sched.now costs h) c.in-Ok.ensures.costs;
    }

-- the run is the only one that is complete
pub returns-in-Ok-show-clause-counted : goal.returns-in-Ok-show-clause-counted
returns-in-Ok-show-clause-counted g c =
    λ h k complete few. omega (arith, c.in-Ok.ensures.counted k few, ap (cost_of_run k c.args.sched.now) (c.in-Ok.ensures.run.only h complete))

pub returns-in-Ok-show-clause-looked : goal.returns-in-Ok-show-clause-looked
returns-in-Ok-show-clause-looked g c =
    λ h complete. omega (arith, c.in-Ok.ensures.looked, ap length (c.in-Ok.ensures.run.only h complete))

pub returns-in-Ok-show-clause-needed : goal.returns-in-Ok-show-clause-needed
returns-in-Ok-show-clause-needed g c =
    λ h complete. omega (arith, c.in-Ok.ensures.needed, ap (reads_of_run c.args.sched.now) (c.in-Ok.ensures.run.only h complete))
