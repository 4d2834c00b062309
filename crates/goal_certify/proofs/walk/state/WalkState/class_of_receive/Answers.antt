use Rattle.std.proofs.Common.{sym, ◌∙◌}
use Rattle.goal_certify.proofs.Choice.{receive_posts}
use Rattle.goal_certify.proofs.walk.state.WalkState.class_of_receive.Goals as goal

pub returns : goal.returns
returns c =
    receive_posts _ _ c.args.recv c.requires.receive (sym c.may_serve.ensures ∙ c.if-may_serve.false) c.requires.some
