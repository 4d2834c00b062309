use Rattle.std.proofs.Common.{sym, ◌∙◌}
use Rattle.goal_certify.proofs.Choice.{receive_idle}
use Rattle.goal_certify.proofs.walk.state.WalkState.choice_of_receive.Goals as goal

pub returns : goal.returns
returns c =
    receive_idle _ _ c.args.recv c.requires.receive c.requires.posted (sym c.may_serve.ensures ∙ c.if-may_serve.false)
