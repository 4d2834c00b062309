use Rattle.std.proofs.Common.{ℕ, sym, ap, ◌∙◌}
use Rattle.std.specs.Option.{option_map}
use Rattle.goal_graph.specs.declared.action.Class.TheVariants.{Arrive}
use Rattle.sim_state.proofs.EnabledLemmas.{started_unpaired_awaits_arrival, arrival_enabled}
use Rattle.sim_state.proofs.state.RunState.arrival.Goals as goal

pub returns-in_err-time : goal.returns-in_err-time
returns-in_err-time g c =
    let told = c.get.ensures ∙ started_unpaired_awaits_arrival _ _ _ c.args.send c.known.ensures.run c.entry.result.now c.entry.ensures c.requires.started c.requires.unpaired in
    c.from_residual.ensures ∙ ap (option_map (λ (t : ℕ). record { time = t; class = Arrive; op = c.args.send })) (sym c.in_err-time.was) ∙ arrival_enabled _ _ _ c.args.send c.get.result told

pub returns : goal.returns
returns g c =
    let told = c.get.ensures ∙ started_unpaired_awaits_arrival _ _ _ c.args.send c.known.ensures.run c.entry.result.now c.entry.ensures c.requires.started c.requires.unpaired in
    ap (option_map (λ (t : ℕ). record { time = t; class = Arrive; op = c.args.send })) (sym c.in_ok-time.was) ∙ arrival_enabled _ _ _ c.args.send c.get.result told
