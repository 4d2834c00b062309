use Rattle.std.proofs.Common.{is_some, sym, ap, ap₂, ◌∙◌, max}
use Rattle.sim_state.proofs.Views.{free_at_view}
use Rattle.sim_state.proofs.EnabledLemmas.{no_serve_enabled_for_ended_receive, no_serve_enabled_for_unpaired, no_serve_enabled_without_message, receive_pairing, paired_receive_awaits_some_time, pairing_send, known_message_is_there, serve_enabled, serve_time}
use Rattle.sim_state.proofs.state.RunState.serve_of.Goals as goal
use Rattle.goal_graph.proofs.ForCallers.{receive_is_op}

pub entry-entry-requires : goal.entry-entry-requires
entry-entry-requires g c = receive_is_op _ c.args.recv c.requires

pub returns-then-is_some : goal.returns-then-is_some
returns-then-is_some g c =
    no_serve_enabled_for_ended_receive _ _ _ c.args.recv c.requires c.entry-entry.result.now c.entry-entry.ensures (ap is_some (sym c.get.ensures) ∙ sym c.is_some.ensures ∙ c.if-is_some.true)

pub returns-in_err-send : goal.returns-in_err-send
returns-in_err-send g c =
    c.from_residual.ensures ∙ no_serve_enabled_for_unpaired _ _ _ c.args.recv c.entry-entry.result.now c.entry-entry.ensures (sym c.partner.ensures ∙ c.in_err-send.was)

pub returns-in_err-paired : goal.returns-in_err-paired
returns-in_err-paired g c =
    absurd (paired_receive_awaits_some_time _ _ _ c.args.recv c.known.ensures.run c.requires c.entry-entry.result.now c.in_ok-send.send c.entry-entry.ensures (sym c.partner.ensures ∙ c.in_ok-send.was) (sym c.get-2.ensures ∙ c.in_err-paired.was))

pub message_there-requires : goal.message_there-requires
message_there-requires g c =
    let pairing = receive_pairing _ _ _ c.args.recv c.known.ensures.run c.requires c.entry-entry.result.now c.in_ok-send.send c.in_ok-paired.paired c.entry-entry.ensures (sym c.partner.ensures ∙ c.in_ok-send.was) (sym c.get-2.ensures ∙ c.in_ok-paired.was) in
    pairing_send _ _ _ c.args.recv c.requires _ pairing

pub returns-in_err-there : goal.returns-in_err-there
returns-in_err-there g c =
    let pairing = receive_pairing _ _ _ c.args.recv c.known.ensures.run c.requires c.entry-entry.result.now c.in_ok-send.send c.in_ok-paired.paired c.entry-entry.ensures (sym c.partner.ensures ∙ c.in_ok-send.was) (sym c.get-2.ensures ∙ c.in_ok-paired.was) in
    c.from_residual-in_err-there.ensures ∙ no_serve_enabled_without_message _ _ _ c.args.recv _ pairing c.message_there.result c.message_there.ensures c.in_err-there.was

pub returns : goal.returns
returns g c =
    let pairing = receive_pairing _ _ _ c.args.recv c.known.ensures.run c.requires c.entry-entry.result.now c.in_ok-send.send c.in_ok-paired.paired c.entry-entry.ensures (sym c.partner.ensures ∙ c.in_ok-send.was) (sym c.get-2.ensures ∙ c.in_ok-paired.was) in
    let free = free_at_view g.C.Costs.model _ _ _ c.self.view_is c.self.invariant.free in
    let there = known_message_is_there _ _ _ c.args.recv _ pairing c.message_there.result c.in_ok-there.there c.message_there.ensures c.in_ok-there.was in
    serve_enabled _ _ _ c.args.recv c.requires c.entry-entry.result.now c.entry-entry.ensures (ap is_some (sym c.get.ensures) ∙ sym c.is_some.ensures ∙ c.if-is_some.false) c.in_ok-there.there c.serve_at.result there (c.serve_at.ensures ∙ ap₂ max (sym there.when) (ap₂ max (free.cpus c.args.recv) (free.receivers c.args.recv)) ∙ sym (serve_time _ _ _ c.args.recv c.requires))
