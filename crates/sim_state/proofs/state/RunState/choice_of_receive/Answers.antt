use Rattle.std.proofs.Common.{sym, refl}
use Rattle.sim_state.proofs.Choice.{receive_choice, option_or_of_some, option_or_of_none}
use Rattle.sim_state.proofs.state.RunState.choice_of_receive.Goals as goal

pub returns-then-is_some : goal.returns-then-is_some
returns-then-is_some g c =
    receive_choice _ _ _ c.args.recv c.requires c.post_of-post.result _ c.post_of-post.result c.post_of-post.ensures refl (option_or_of_some c.post_of-post.result _ (sym c.if-is_some.ensures))

pub returns : goal.returns
returns g c =
    receive_choice _ _ _ c.args.recv c.requires c.post_of-post.result c.serve_of.result c.serve_of.result c.post_of-post.ensures c.serve_of.ensures (option_or_of_none c.post_of-post.result c.serve_of.result (sym c.if-is_some.ensures))
