use Rattle.std.proofs.Common.{Some, None, sym, ◌∙◌}
use Rattle.goal_graph.specs.Action.{plain}
use Rattle.sim_params.specs.Costs.{is_eager}
use Rattle.sim_stuck.proofs.ReasonCases.{unmet_reason, met_reason}
use Rattle.sim_stuck.proofs.reasons.reason.Goals as goal

pub returns-in-Some : goal.returns-in-Some
returns-in-Some g c =
    unmet_reason c.args.engine.now.plans (is_eager c.args.engine.now.plans (g.C.Costs.model c.args.engine.now.costs)) (plain c.args.engine.now.history) c.args.id c.in-Some.unmet (sym c.in-Some.is ∙ c.first_unmet.ensures)

pub returns-in-Some-first_that_fits : goal.returns-in-Some-first_that_fits
returns-in-Some-first_that_fits g c =
    met_reason c.args.engine.now.plans (is_eager c.args.engine.now.plans (g.C.Costs.model c.args.engine.now.costs)) (plain c.args.engine.now.history) c.args.id c.sched.result.now c.args.firsts.now (Some c.in-Some-first_that_fits.partner) c.sched.ensures c.requires.firsts c.in_default.ensures (λ ids order are. sym c.in-Some-first_that_fits.is ∙ c.first_that_fits.ensures ids order are)

pub returns-in-None : goal.returns-in-None
returns-in-None g c =
    met_reason c.args.engine.now.plans (is_eager c.args.engine.now.plans (g.C.Costs.model c.args.engine.now.costs)) (plain c.args.engine.now.history) c.args.id c.sched.result.now c.args.firsts.now None c.sched.ensures c.requires.firsts c.in_default.ensures (λ ids order are. sym c.in-None.is ∙ c.first_that_fits.ensures ids order are)
