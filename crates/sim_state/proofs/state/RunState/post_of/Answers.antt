use Rattle.std.proofs.Common.{sym, ◌∙◌}
use Rattle.goal_graph.specs.declared.action.Class.TheVariants.{Post}
use Rattle.sim_state.proofs.EnabledLemmas.{receive_begins, begun_not_enabled, unready_not_enabled, ready_enabled, post_time}
use Rattle.sim_state.proofs.state.RunState.post_of.Goals as goal
use Rattle.goal_graph.proofs.ForCallers.{receive_is_op}

pub has_started-requires : goal.has_started-requires
has_started-requires g c = receive_is_op _ c.args.recv c.requires

pub returns-then-has_started : goal.returns-then-has_started
returns-then-has_started g c =
    begun_not_enabled _ _ _ c.args.recv Post (receive_begins _ _ _ c.args.recv c.requires) (sym c.has_started.ensures ∙ c.if-has_started.true)

pub ready-requires-clause-exists : goal.ready-requires-clause-exists
ready-requires-clause-exists g c = receive_is_op _ c.args.recv c.requires

pub returns-in_err-time : goal.returns-in_err-time
returns-in_err-time g c =
    c.from_residual.ensures ∙ unready_not_enabled _ _ _ c.args.recv Post (receive_begins _ _ _ c.args.recv c.requires) c.ready.result c.ready.ensures c.in_err-time.was

pub returns : goal.returns
returns g c =
    ready_enabled _ _ _ c.args.recv Post (receive_begins _ _ _ c.args.recv c.requires) (sym c.has_started.ensures ∙ c.if-has_started.false) c.ready.result c.in_ok-time.time c.in_ok-time.time c.ready.ensures c.in_ok-time.was (λ e. sym e ∙ sym (post_time _ _ _ c.args.recv c.requires))
