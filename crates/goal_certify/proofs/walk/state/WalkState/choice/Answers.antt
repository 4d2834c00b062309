use Rattle.std.proofs.Common.{List, Some, sym, ap, ◌∙◌, refl}
use Rattle.goal_graph.specs.declared.plan.Kind.TheVariants.{Calc, Send, Recv}
use Rattle.goal_graph.specs.declared.plan.Kind.{Kind}
use Rattle.goal_graph.specs.declared.action.Class.{Class}
use Rattle.goal_graph.specs.Schedule.{Plan, op_at}
use Rattle.goal_graph.specs.Allowed.{first_class}
use Rattle.goal_graph.proofs.ForCallers.{kind_from_op}
use Rattle.goal_certify.specs.WalkQueue.{may_act}
use Rattle.goal_certify.proofs.Choice.{calc_idle}
use Rattle.goal_certify.proofs.walk.state.WalkState.choice.Goals as goal

pub may_start-requires-clause-first : goal.may_start-requires-clause-first
may_start-requires-clause-first c =
    let is = sym (ap (λ (plans : List Plan). op_at plans c.args.id) c.sched.ensures) ∙ c.op.ensures.op in
    c.first_class-first.ensures ∙ ap first_class (sym (kind_from_op _ c.args.id c.op.result.now _ is refl))

pub choice_of_send-requires-clause-send : goal.choice_of_send-requires-clause-send
choice_of_send-requires-clause-send c =
    let is = sym (ap (λ (plans : List Plan). op_at plans c.args.id) c.sched.ensures) ∙ c.op.ensures.op in
    record { bytes = c.in-Send.bytes; to = c.in-Send.to; tag = c.in-Send.tag; kind = kind_from_op _ c.args.id c.op.result.now (Send c.in-Send.bytes c.in-Send.to c.in-Send.tag) is c.in-Send.is }

pub choice_of_receive-requires-clause-receive : goal.choice_of_receive-requires-clause-receive
choice_of_receive-requires-clause-receive c =
    let is = sym (ap (λ (plans : List Plan). op_at plans c.args.id) c.sched.ensures) ∙ c.op.ensures.op in
    record { room = c.in-Recv.bytes; from = c.in-Recv.from; tag = c.in-Recv.tag; kind = kind_from_op _ c.args.id c.op.result.now (Recv c.in-Recv.bytes c.in-Recv.from c.in-Recv.tag) is c.in-Recv.is }

pub returns-in-Calc-clause-choice : goal.returns-in-Calc-clause-choice
returns-in-Calc-clause-choice c =
    let is = sym (ap (λ (plans : List Plan). op_at plans c.args.id) c.sched.ensures) ∙ c.op.ensures.op in
    calc_idle _ _ c.args.id (record { nanos = c.in-Calc.nanos; kind = kind_from_op _ c.args.id c.op.result.now (Calc c.in-Calc.nanos) is c.in-Calc.is }) (ap (λ (k : Class). may_act c.args.self.now.plans c.args.self.now.history k c.args.id) (sym (c.first_class-first.ensures ∙ ap (λ (k : Kind). first_class (Some k)) c.in-Calc.is)) ∙ sym c.may_start.ensures.may ∙ c.if-may_start.false)
