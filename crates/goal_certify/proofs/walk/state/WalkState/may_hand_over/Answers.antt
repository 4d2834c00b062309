use Rattle.std.proofs.Common.{◌&&◌, not, is_some, sym, ap, ◌∙◌}
use Rattle.goal_graph.proofs.ForCallers.{send_is_op}
use Rattle.goal_certify.specs.declared.walk.entry.OpProgress.{OpProgress}
use Rattle.goal_certify.proofs.Choice.{may_transfer_iff_fresh_and_paired, and_is_second_if_first_true, and_is_first_if_first_false}
use Rattle.goal_certify.proofs.walk.state.WalkState.may_hand_over.Goals as goal

pub entry-entry-requires : goal.entry-entry-requires
entry-entry-requires c = send_is_op _ c.args.send c.requires

pub returns-then-not-entry : goal.returns-then-not-entry
returns-then-not-entry c =
    c.is_some.ensures ∙ and_is_second_if_first_true _ (not c.entry-entry.result.sent) (is_some c.entry-entry.result.paired) (may_transfer_iff_fresh_and_paired _ c.args.self.now.history c.args.send c.requires ∙ ap (λ (e : OpProgress). not e.sent && is_some e.paired) (sym c.entry-entry.ensures)) (ap not c.if-not-entry.true)

pub returns-else-not-entry : goal.returns-else-not-entry
returns-else-not-entry c =
    and_is_first_if_first_false _ (not c.entry-entry.result.sent) (is_some c.entry-entry.result.paired) (may_transfer_iff_fresh_and_paired _ c.args.self.now.history c.args.send c.requires ∙ ap (λ (e : OpProgress). not e.sent && is_some e.paired) (sym c.entry-entry.ensures)) (ap not c.if-not-entry.false)
