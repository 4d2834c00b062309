use Rattle.std.proofs.Common.{ℕ, List, sym, subst}
use Rattle.goal_views.specs.Views.{Shows}
use Rattle.goal_views.proofs.run.show_whole.Goals as goal

pub returns-clause-shown : goal.returns-clause-shown
returns-clause-shown g c =
    subst (λ (t : List ℕ). Shows c.args.view c.args.sched.now (g.C.Costs.model c.args.engine.costs) c.args.engine.history t)
    (sym c.whole.ensures.text) c.in_ok-text.ensures.shown
