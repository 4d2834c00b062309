use Rattle.std.proofs.Common.{List, sym, ap, ◌∙◌}
use Rattle.goal_graph.specs.declared.plan.Kind.TheVariants.{Calc, Send, Recv}
use Rattle.goal_graph.specs.Schedule.{Plan, op_at}
use Rattle.goal_graph.proofs.ForCallers.{kind_from_op}
use Rattle.goal_certify.proofs.Chosen.{idle_begun, arrives_next, newest_begin_is_not_of_receive}
use Rattle.goal_certify.proofs.walk.state.WalkState.choice_of_begun.Goals as goal

pub returns-in-Calc : goal.returns-in-Calc
returns-in-Calc c =
    let is = sym (ap (λ (plans : List Plan). op_at plans c.args.id) c.sched.ensures) ∙ c.op.ensures.op in
    idle_begun c.args.self.now.plans c.args.self.now.history c.args.id c.known.ensures.each c.requires.newest (record { nanos = c.in-Calc.nanos; kind = kind_from_op _ c.args.id c.op.result.now (Calc c.in-Calc.nanos) is c.in-Calc.is })

pub returns-in-Send : goal.returns-in-Send
returns-in-Send c =
    let is = sym (ap (λ (plans : List Plan). op_at plans c.args.id) c.sched.ensures) ∙ c.op.ensures.op in
    arrives_next c.args.self.now.plans c.args.self.now.history c.args.id c.known.ensures.each c.requires.newest (record { bytes = c.in-Send.bytes; to = c.in-Send.to; tag = c.in-Send.tag; kind = kind_from_op _ c.args.id c.op.result.now (Send c.in-Send.bytes c.in-Send.to c.in-Send.tag) is c.in-Send.is })

pub unreachable-requires : goal.unreachable-requires
unreachable-requires c =
    let is = sym (ap (λ (plans : List Plan). op_at plans c.args.id) c.sched.ensures) ∙ c.op.ensures.op in
    newest_begin_is_not_of_receive c.args.self.now.plans c.args.self.now.history c.args.id c.known.ensures.each c.requires.newest (record { room = c.in-Recv.bytes; from = c.in-Recv.from; tag = c.in-Recv.tag; kind = kind_from_op _ c.args.id c.op.result.now (Recv c.in-Recv.bytes c.in-Recv.from c.in-Recv.tag) is c.in-Recv.is })
