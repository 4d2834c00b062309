use Rattle.std.proofs.Common.{List, sym, ap, ◌∙◌}
use Rattle.goal_graph.specs.declared.plan.Kind.TheVariants.{Calc, Send, Recv}
use Rattle.goal_graph.specs.Schedule.{Plan, op_at}
use Rattle.goal_graph.proofs.ForCallers.{kind_from_op}
use Rattle.goal_certify.proofs.Choice.{calc_begins}
use Rattle.goal_certify.proofs.walk.state.WalkState.class_of.Goals as goal

pub class_of_send-requires-clause-send : goal.class_of_send-requires-clause-send
class_of_send-requires-clause-send c =
    let is = sym (ap (λ (plans : List Plan). op_at plans c.args.id) c.sched.ensures) ∙ c.op.ensures.op in
    record { bytes = c.in-Send.bytes; to = c.in-Send.to; tag = c.in-Send.tag; kind = kind_from_op _ c.args.id c.op.result.now (Send c.in-Send.bytes c.in-Send.to c.in-Send.tag) is c.in-Send.is }

pub class_of_receive-requires-clause-receive : goal.class_of_receive-requires-clause-receive
class_of_receive-requires-clause-receive c =
    let is = sym (ap (λ (plans : List Plan). op_at plans c.args.id) c.sched.ensures) ∙ c.op.ensures.op in
    record { room = c.in-Recv.bytes; from = c.in-Recv.from; tag = c.in-Recv.tag; kind = kind_from_op _ c.args.id c.op.result.now (Recv c.in-Recv.bytes c.in-Recv.from c.in-Recv.tag) is c.in-Recv.is }

pub returns-in-Calc : goal.returns-in-Calc
returns-in-Calc c =
    let is = sym (ap (λ (plans : List Plan). op_at plans c.args.id) c.sched.ensures) ∙ c.op.ensures.op in
    calc_begins _ _ c.args.id (record { nanos = c.in-Calc.nanos; kind = kind_from_op _ c.args.id c.op.result.now (Calc c.in-Calc.nanos) is c.in-Calc.is }) c.requires.some
