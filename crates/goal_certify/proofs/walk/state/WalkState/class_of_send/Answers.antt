use Rattle.std.proofs.Common.{sym, ◌∙◌}
use Rattle.goal_certify.proofs.Choice.{send_begins}
use Rattle.goal_certify.proofs.walk.state.WalkState.class_of_send.Goals as goal

pub returns : goal.returns
returns c =
    send_begins _ _ c.args.send c.requires.send (sym c.may_arrive.ensures ∙ c.if-may_arrive.false) (sym c.may_hand_over.ensures ∙ c.if-may_hand_over.false) c.requires.some
