use Rattle.std.proofs.Common.{filter, ap, ◌∙◌}
use Rattle.std.proofs.lemmas.List.{take_all}
use Rattle.goal_graph.specs.Schedule.{operations}
use Rattle.goal_graph.specs.Action.{plain}
use Rattle.sim_stuck.proofs.ReasonCases.{is_unstarted}
use Rattle.sim_stuck.proofs.reasons.unstarted.Goals as goal

pub returns : goal.returns
returns g c =
    let picks = is_unstarted c.args.engine.now.plans (plain c.args.engine.now.history) in
    c.loop-id.invariant ∙ ap (filter picks) (take_all c.loop-id.id-index c.operations-id-items.result.now c.loop-id-test.false ∙ c.operations-id-items.ensures.all ∙ ap operations c.sched.ensures)
