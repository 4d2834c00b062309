use Rattle.std.proofs.Common.{◌+◌, is_some, sym, ap, ap₂, ◌∙◌, max, subst, arith}
use Rattle.sim_params.specs.Costs.{latency}
use Rattle.sim_eager.specs.Messages.{IsMessage}
use Rattle.sim_state.specs.Engine.{RunSoFar}
use Rattle.sim_state.specs.declared.entry.OpState.{OpState}
use Rattle.sim_state.proofs.Views.{free_at_view, within_at_view}
use Rattle.sim_state.proofs.EnabledLemmas.{ended_data, waiting_there, waiting_since, clears, data_enabled, data_time}
use Rattle.sim_state.proofs.Tasks.{send_work_is_message}
use Rattle.sim_state.proofs.state.RunState.hand_over_of.Goals as goal
use Rattle.goal_graph.proofs.ForCallers.{send_is_op}

pub entry-requires : goal.entry-requires
entry-requires g c = send_is_op _ c.args.send c.requires.op

pub returns-then-is_some : goal.returns-then-is_some
returns-then-is_some g c =
    ended_data _ _ _ c.args.send c.known.ensures.run c.requires.op c.requires.paired c.entry.result.now c.entry.ensures (ap is_some (sym c.get.ensures) ∙ sym c.is_some.ensures ∙ c.if-is_some.true)

pub returns-in_err-paired : goal.returns-in_err-paired
returns-in_err-paired g c =
    absurd (waiting_there _ _ _ c.args.send c.known.ensures.run c.requires.op c.requires.paired c.entry.result.now c.entry.ensures (ap is_some (sym c.get.ensures) ∙ sym c.is_some.ensures ∙ c.if-is_some.false) (sym c.get-2.ensures ∙ c.in_err-paired.was))

pub clear_to-cleared-requires-clause-goes_to : goal.clear_to-cleared-requires-clause-goes_to
clear_to-cleared-requires-clause-goes_to g c =
    let work = c.entry.result.now.work in
    let message = send_work_is_message _ _ c.args.send work (ap (λ (e : OpState). e.work) c.entry.ensures) c.requires.op in
    (work.amount, subst (λ (v : RunSoFar _). IsMessage v.plans c.args.send work.to work.amount) (sym c.self.view_is) message)

pub clear_to-cleared-requires-clause-latency_fits : goal.clear_to-cleared-requires-clause-latency_fits
clear_to-cleared-requires-clause-latency_fits g c =
    let unended = ap is_some (sym c.get.ensures) ∙ sym c.is_some.ensures ∙ c.if-is_some.false in
    let within = within_at_view g.C.Costs.model _ _ c.self.view_is c.self.invariant.within in
    let since = waiting_since _ _ _ c.args.send c.known.ensures.run c.requires.op c.requires.paired c.entry.result.now c.entry.ensures unended c.in_ok-paired.paired (sym c.get-2.ensures ∙ c.in_ok-paired.was) in
    let back = clears _ _ _ c.args.send c.known.ensures.run c.requires.op c.requires.paired c.entry.result.now c.entry.ensures unended in
    omega (arith, back, since, within, ap (λ (v : RunSoFar _). latency v.plans (g.C.Costs.model v.costs) c.args.send) c.self.view_is)

pub returns : goal.returns
returns g c =
    let unended = ap is_some (sym c.get.ensures) ∙ sym c.is_some.ensures ∙ c.if-is_some.false in
    let since = waiting_since _ _ _ c.args.send c.known.ensures.run c.requires.op c.requires.paired c.entry.result.now c.entry.ensures unended c.in_ok-paired.paired (sym c.get-2.ensures ∙ c.in_ok-paired.was) in
    let free = free_at_view g.C.Costs.model _ _ _ c.self.view_is c.self.invariant.free in
    let back = c.clear_to-cleared.ensures ∙ ap (λ (v : RunSoFar _). c.in_ok-paired.paired + latency v.plans (g.C.Costs.model v.costs) c.args.send) c.self.view_is ∙ ap (λ n. n + latency c.args.self.now.plans (g.C.Costs.model c.args.self.now.costs) c.args.send) (sym since) in
    data_enabled _ _ _ c.args.send c.known.ensures.run c.requires.op c.requires.paired c.entry.result.now c.entry.ensures unended c.data_at.result (c.data_at.ensures ∙ ap₂ max back (ap₂ max (free.cpus c.args.send) (free.senders c.args.send)) ∙ sym (data_time _ _ _ c.args.send c.requires.op))
