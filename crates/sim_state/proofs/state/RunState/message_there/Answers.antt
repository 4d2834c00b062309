use denote.Enum.Bare.{same_false}
use Rattle.std.proofs.Common.{is_some, sym, ap, ◌∙◌}
use Rattle.sim_state.specs.declared.entry.OpState.{OpState}
use Rattle.sim_state.specs.contracts.task.Task.{the_type}
use Rattle.sim_state.proofs.EnabledLemmas.{send_of_other_task_is_not_eager, ended_message}
use Rattle.sim_state.proofs.state.RunState.message_there.Goals as goal
use Rattle.goal_graph.proofs.ForCallers.{send_is_op}

pub entry-requires : goal.entry-requires
entry-requires g c = send_is_op _ c.args.send c.requires

pub returns : goal.returns
returns g c =
    let large = send_of_other_task_is_not_eager _ _ c.args.send c.entry.result.now.work.task (ap (λ (e : OpState). e.work.task) c.entry.ensures) c.requires (same_false the_type _ _ (sym c.if-eq.ensures)) in
    c.get-2.ensures ∙ ended_message _ _ _ c.args.send c.known.ensures.run c.requires large c.args.paired c.entry.result.now c.entry.ensures (ap is_some (sym c.get.ensures ∙ c.in_ok-get.was))
