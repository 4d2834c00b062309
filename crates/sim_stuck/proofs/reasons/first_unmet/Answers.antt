use Rattle.std.proofs.Common.{List, find, ap, ◌∙◌}
use Rattle.goal_graph.specs.Schedule.{Plan, needs}
use Rattle.goal_graph.specs.Action.{plain}
use Rattle.sim_params.specs.Costs.{is_eager}
use Rattle.sim_params.specs.Stuck.{first_unmet}
use Rattle.sim_stuck.proofs.ReasonCases.{is_unmet}
use Rattle.sim_stuck.proofs.reasons.first_unmet.Goals as goal

pub loop-need-init : goal.loop-need-init
unfolding first_unmet
loop-need-init g c =
    ap (find (is_unmet c.args.engine.now.plans (is_eager c.args.engine.now.plans (g.C.Costs.model c.args.engine.now.costs)) (plain c.args.engine.now.history) c.args.id)) (c.needs-need-items.ensures.needs ∙ ap (λ (plans : List Plan). needs plans c.args.id) c.sched.ensures)
