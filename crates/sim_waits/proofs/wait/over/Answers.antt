use Rattle.std.proofs.Common.{ap, ◌∙◌}
use Rattle.goal_graph.specs.Schedule.{kind_at}
use Rattle.sim_waits.proofs.WaitLemmas.{kind_read, cost_at}
use Rattle.sim_waits.proofs.wait.over.Goals as goal

pub returns-in-Send : goal.returns-in-Send
returns-in-Send g c =
    c.over.ensures ∙ ap (λ costs. (g.C.Costs.model costs).over c.args.id.rank c.in-Send.to c.in-Send.bytes) c.costs.ensures ∙ cost_at (g.C.Costs.model c.args.engine.now.costs).over c.args.id.rank (kind_at c.args.engine.now.plans c.args.id) _ (kind_read c.args.engine.now.plans c.sched.result.now c.args.id c.op.result.now _ c.sched.ensures c.op.ensures.op c.in-Send.is)

pub returns-in-Calc : goal.returns-in-Calc
returns-in-Calc g c =
    cost_at (g.C.Costs.model c.args.engine.now.costs).over c.args.id.rank (kind_at c.args.engine.now.plans c.args.id) _ (kind_read c.args.engine.now.plans c.sched.result.now c.args.id c.op.result.now _ c.sched.ensures c.op.ensures.op c.in-Calc.is)

pub returns-in-Recv : goal.returns-in-Recv
returns-in-Recv g c =
    cost_at (g.C.Costs.model c.args.engine.now.costs).over c.args.id.rank (kind_at c.args.engine.now.plans c.args.id) _ (kind_read c.args.engine.now.plans c.sched.result.now c.args.id c.op.result.now _ c.sched.ensures c.op.ensures.op c.in-Recv.is)
