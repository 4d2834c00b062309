use Rattle.std.proofs.Common.{refl, sym, ◌∙◌}
use Rattle.sim_waits.proofs.WaitLemmas.{ended_was_ready, computed_wait_is_wait}
use Rattle.sim_waits.proofs.wait.wait.Goals as goal

pub returns-in_err-ready : goal.returns-in_err-ready
returns-in_err-ready g c =
    c.from_residual-in_err-ready.ensures ∙ ended_was_ready c.args.engine.now.plans (g.C.Costs.model c.args.engine.now.costs) c.args.engine.now.history c.args.id c.in_ok-end.end c.known.ensures.run (sym c.in_ok-end.was ∙ c.record.ensures.end) (sym c.in_err-ready.was ∙ c.ready.ensures)

pub returns : goal.returns
returns g c =
    computed_wait_is_wait c.args.engine.now.plans (g.C.Costs.model c.args.engine.now.costs) c.args.engine.now.history c.args.id c.in_ok-end.end c.last_hold.result c.in_ok-ready.ready _ (sym c.in_ok-end.was ∙ c.record.ensures.end) c.last_hold.ensures (sym c.in_ok-ready.was ∙ c.ready.ensures) refl
