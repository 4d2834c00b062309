use Rattle.std.proofs.Common.{sym, ◌∙◌}
use Rattle.goal_certify.proofs.Choice.{send_idle}
use Rattle.goal_certify.proofs.walk.state.WalkState.choice_of_send.Goals as goal

pub returns : goal.returns
returns c =
    send_idle _ _ c.args.send c.requires.send c.requires.begun (sym c.may_arrive.ensures ∙ c.if-may_arrive.false) (sym c.may_hand_over.ensures ∙ c.if-may_hand_over.false)
