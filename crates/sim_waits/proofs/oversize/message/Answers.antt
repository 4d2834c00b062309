use Rattle.std.proofs.Common.{List, sym, ap, ◌∙◌, subst, refl}
use Rattle.goal_graph.specs.Schedule.{Plan}
use Rattle.goal_graph.specs.Fault.{IsOp}
use Rattle.sim_waits.specs.WaitsText.{kind_of_partner}
use Rattle.sim_waits.proofs.WaitLemmas.{kind_read}
use Rattle.sim_waits.proofs.oversize.message.Goals as goal
use Rattle.goal_graph.proofs.ForCallers.{partner_exists}
use Rattle.goal_graph.specs.Action.{plain}

pub op-requires : goal.op-requires
op-requires g c =
    subst (λ (ps : List Plan). IsOp ps c.in-Some.partner) (sym c.sched.ensures) (partner_exists c.args.engine.now.plans (plain c.args.engine.now.history) c.args.id c.in-Some.partner (sym c.record.ensures.partner ∙ c.in-Some.is))

pub returns-in-Some : goal.returns-in-Some
returns-in-Some g c =
    sym (kind_read c.args.engine.now.plans c.sched.result.now c.in-Some.partner c.op.result.now c.op.result.now.kind c.sched.ensures c.op.ensures.op refl) ∙ ap (kind_of_partner c.args.engine.now.plans) (sym c.in-Some.is ∙ c.record.ensures.partner)
