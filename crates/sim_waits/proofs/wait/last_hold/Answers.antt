use Rattle.std.proofs.Common.{◌∙◌, sym, Some, None}
use Rattle.sim_waits.proofs.WaitLemmas.{kind_read, hold_calc, hold_send, hold_recv}
use Rattle.sim_waits.proofs.wait.last_hold.Goals as goal
use Rattle.goal_graph.proofs.ForCallers.{partner_exists}
use Rattle.goal_graph.specs.Action.{plain}

pub over-requires-in-Some : goal.over-requires-in-Some
over-requires-in-Some g c =
    partner_exists c.args.engine.now.plans (plain c.args.engine.now.history) c.args.id c.in-Some.send (sym c.record.ensures.partner ∙ c.in-Some.is)

pub returns-in-Calc : goal.returns-in-Calc
returns-in-Calc g c =
    hold_calc c.args.engine.now.plans (g.C.Costs.model c.args.engine.now.costs) c.args.engine.now.history c.args.id c.in-Calc.nanos (kind_read c.args.engine.now.plans c.sched.result.now c.args.id c.op.result.now _ c.sched.ensures c.op.ensures.op c.in-Calc.is)

pub returns-in-Send : goal.returns-in-Send
returns-in-Send g c =
    c.over.ensures ∙ hold_send c.args.engine.now.plans (g.C.Costs.model c.args.engine.now.costs) c.args.engine.now.history c.args.id c.in-Send.bytes c.in-Send.to c.in-Send.tag (kind_read c.args.engine.now.plans c.sched.result.now c.args.id c.op.result.now _ c.sched.ensures c.op.ensures.op c.in-Send.is)

pub returns-in-Some : goal.returns-in-Some
returns-in-Some g c =
    c.over-in-Some.ensures ∙ hold_recv c.args.engine.now.plans (g.C.Costs.model c.args.engine.now.costs) c.args.engine.now.history c.args.id c.in-Recv.bytes c.in-Recv.from c.in-Recv.tag (Some c.in-Some.send) (kind_read c.args.engine.now.plans c.sched.result.now c.args.id c.op.result.now _ c.sched.ensures c.op.ensures.op c.in-Recv.is) (sym c.in-Some.is ∙ c.record.ensures.partner)

pub returns-in-None : goal.returns-in-None
returns-in-None g c =
    hold_recv c.args.engine.now.plans (g.C.Costs.model c.args.engine.now.costs) c.args.engine.now.history c.args.id c.in-Recv.bytes c.in-Recv.from c.in-Recv.tag None (kind_read c.args.engine.now.plans c.sched.result.now c.args.id c.op.result.now _ c.sched.ensures c.op.ensures.op c.in-Recv.is) (sym c.in-None.is ∙ c.record.ensures.partner)
