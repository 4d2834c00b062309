use Rattle.std.proofs.Common.{Bool, sym, ap, ap₂, ◌∙◌}
use Rattle.goal_graph.proofs.ForCallers.{kind_from_op}
use Rattle.sim_state.specs.declared.task.Task.{Task}
use Rattle.sim_state.specs.declared.task.Task.TheVariants as task
use Rattle.sim_state.specs.declared.work.Work.{Work}
use Rattle.sim_state.specs.Tasks.{work_by}
use Rattle.sim_state.proofs.work.work_of.Goals as goal

pub returns-in-Calc : goal.returns-in-Calc
returns-in-Calc g c =
    let work = ap (work_by c.args.sched.now (g.C.Costs.model c.args.costs.now) c.args.id) (kind_from_op _ c.args.id c.op.result.now _ c.op.ensures.op c.in-Calc.is) in
    ap (λ (t : Bool). record { amount = c.in-Calc.nanos; to = 0; task = task.Calc; is_needed = t }) c.is_needed-is_needed.ensures ∙ sym work

pub task_of_send-requires : goal.task_of_send-requires
task_of_send-requires g c =
    record { bytes = c.in-Send.bytes; to = c.in-Send.to; tag = c.in-Send.tag; kind = kind_from_op _ c.args.id c.op.result.now _ c.op.ensures.op c.in-Send.is }

pub returns-in-Send : goal.returns-in-Send
returns-in-Send g c =
    let work = ap (work_by c.args.sched.now (g.C.Costs.model c.args.costs.now) c.args.id) (kind_from_op _ c.args.id c.op.result.now _ c.op.ensures.op c.in-Send.is) in
    ap₂ (λ (s : Task) (t : Bool). record { amount = c.in-Send.bytes; to = c.in-Send.to; task = s; is_needed = t }) (c.task_of_send.ensures ∙ ap (λ (w : Work). w.task) work) c.is_needed-is_needed.ensures ∙ sym work

pub returns-in-Recv : goal.returns-in-Recv
returns-in-Recv g c =
    let work = ap (work_by c.args.sched.now (g.C.Costs.model c.args.costs.now) c.args.id) (kind_from_op _ c.args.id c.op.result.now _ c.op.ensures.op c.in-Recv.is) in
    ap (λ (t : Bool). record { amount = 0; to = 0; task = task.Receive; is_needed = t }) c.is_needed-is_needed.ensures ∙ sym work
