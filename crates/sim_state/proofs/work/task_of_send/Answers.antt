use Rattle.std.proofs.Common.{sym, ◌∙◌}
use Rattle.sim_state.proofs.EnabledLemmas.{eager_read}
use Rattle.sim_state.proofs.Tasks.{send_task}
use Rattle.sim_state.proofs.work.task_of_send.Goals as goal

pub returns-then-eager : goal.returns-then-eager
returns-then-eager g c =
    let m = c.message-message.result in
    send_task _ (g.C.Costs.model c.args.costs.now) c.args.send _ c.requires (sym c.if-eager.true ∙ c.eager.ensures ∙ eager_read _ _ c.args.send m.bytes m.to m.tag c.message-message.ensures.kind)

pub returns-else-eager : goal.returns-else-eager
returns-else-eager g c =
    let m = c.message-message.result in
    send_task _ (g.C.Costs.model c.args.costs.now) c.args.send _ c.requires (sym c.if-eager.false ∙ c.eager.ensures ∙ eager_read _ _ c.args.send m.bytes m.to m.tag c.message-message.ensures.kind)
