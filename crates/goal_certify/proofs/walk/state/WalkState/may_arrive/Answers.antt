use Rattle.std.proofs.Common.{◌&&◌, not, sym, ap, ◌∙◌}
use Rattle.goal_graph.proofs.ForCallers.{send_is_op}
use Rattle.goal_certify.specs.declared.walk.entry.OpProgress.{OpProgress}
use Rattle.goal_certify.proofs.Choice.{may_arrive_iff_fresh_and_begun, and_is_second_if_first_true, and_is_first_if_first_false}
use Rattle.goal_certify.proofs.walk.state.WalkState.may_arrive.Goals as goal

pub entry-entry-requires : goal.entry-entry-requires
entry-entry-requires c = send_is_op _ c.args.send c.requires

pub returns-then-not-entry : goal.returns-then-not-entry
returns-then-not-entry c =
    and_is_second_if_first_true _ _ _ (may_arrive_iff_fresh_and_begun _ c.args.self.now.history c.args.send c.requires ∙ ap (λ (e : OpProgress). not e.arrived && e.begun) (sym c.entry-entry.ensures)) c.if-not-entry.true

pub returns-else-not-entry : goal.returns-else-not-entry
returns-else-not-entry c =
    and_is_first_if_first_false _ _ _ (may_arrive_iff_fresh_and_begun _ c.args.self.now.history c.args.send c.requires ∙ ap (λ (e : OpProgress). not e.arrived && e.begun) (sym c.entry-entry.ensures)) c.if-not-entry.false
