use Rattle.std.proofs.Common.{None, is_some, sym, refl, ap, ◌∙◌}
use Rattle.sim_state.proofs.Choice.{is_some_false_means_none, fresh_send_choice, begun_send_choice}
use Rattle.sim_state.proofs.EnabledLemmas.{no_arrive_enabled_for_paired_send, no_data_enabled_for_unpaired}
use Rattle.sim_state.proofs.Handed.{or_none}
use Rattle.sim_state.proofs.state.RunState.choice_of_send.Goals as goal
use Rattle.goal_graph.proofs.ForCallers.{send_is_op}

pub has_started-requires : goal.has_started-requires
has_started-requires g c = send_is_op _ c.args.send c.requires

pub begin_of_send-requires-clause-fresh : goal.begin_of_send-requires-clause-fresh
begin_of_send-requires-clause-fresh g c = sym c.has_started.ensures ∙ c.if-not-has_started.true

pub returns-then-not-has_started : goal.returns-then-not-has_started
returns-then-not-has_started g c =
    fresh_send_choice _ _ _ c.args.send c.requires c.known.ensures.run (sym c.has_started.ensures ∙ c.if-not-has_started.true) _ c.begin_of_send.ensures

pub partner-requires : goal.partner-requires
partner-requires g c = send_is_op _ c.args.send c.requires

pub arrival-requires-clause-exists : goal.arrival-requires-clause-exists
arrival-requires-clause-exists g c = send_is_op _ c.args.send c.requires

pub arrival-requires-clause-started : goal.arrival-requires-clause-started
arrival-requires-clause-started g c = sym c.has_started.ensures ∙ c.if-not-has_started.false

pub arrival-requires-clause-unpaired : goal.arrival-requires-clause-unpaired
arrival-requires-clause-unpaired g c = sym c.partner.ensures ∙ is_some_false_means_none c.partner.result c.if-is_none.ensures

pub returns-then-is_none : goal.returns-then-is_none
returns-then-is_none g c =
    let none = sym c.partner.ensures ∙ is_some_false_means_none c.partner.result c.if-is_none.ensures in
    begun_send_choice _ _ _ c.args.send c.requires (sym c.has_started.ensures ∙ c.if-not-has_started.false) c.arrival.result None _ c.arrival.ensures (no_data_enabled_for_unpaired _ _ _ c.args.send none) (sym (or_none c.arrival.result))

pub hand_over_of-requires-clause-paired : goal.hand_over_of-requires-clause-paired
hand_over_of-requires-clause-paired g c = ap is_some (sym c.partner.ensures) ∙ c.if-is_none.ensures

pub returns : goal.returns
returns g c =
    begun_send_choice _ _ _ c.args.send c.requires (sym c.has_started.ensures ∙ c.if-not-has_started.false) None c.hand_over_of.result _ (no_arrive_enabled_for_paired_send _ _ _ c.args.send c.requires (ap is_some (sym c.partner.ensures) ∙ c.if-is_none.ensures)) c.hand_over_of.ensures refl
