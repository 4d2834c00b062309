use Rattle.std.proofs.Common.{ap, ◌∙◌}
use Rattle.sim_state.specs.declared.entry.OpState.{OpState}
use Rattle.sim_state.proofs.Ready.{still_unready, now_ready}
use Rattle.sim_state.proofs.state.RunState.ready.Goals as goal

pub returns-then-unmet-gt0 : goal.returns-then-unmet-gt0
returns-then-unmet-gt0 g c =
    still_unready _ _ _ c.args.id c.unmet.result (c.unmet.ensures ∙ ap (λ (e : OpState). e.link.unmet) c.entry-entry.ensures) c.if-unmet-gt0.true

pub returns : goal.returns
returns g c =
    now_ready _ _ _ c.args.id c.unmet.result (c.unmet.ensures ∙ ap (λ (e : OpState). e.link.unmet) c.entry-entry.ensures) c.if-unmet-gt0.false c.get.result (c.get.ensures ∙ ap (λ (e : OpState). e.times.awaited) c.entry-entry.ensures) c.requires.fresh
