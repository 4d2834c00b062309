use Rattle.std.proofs.Common.{◌≡◌, List, sym, ap, ◌∙◌}
use Rattle.goal_graph.specs.Schedule.{Plan, op_at}
use Rattle.goal_graph.specs.Action.{happened}
use Rattle.goal_graph.proofs.ForCallers.{kind_from_op}
use Rattle.goal_certify.specs.declared.walk.entry.OpProgress.{OpProgress}
use Rattle.goal_certify.specs.WalkSoFar.{is_done}
use Rattle.goal_certify.proofs.Choice.{done_known, happened_iff_met}
use Rattle.goal_certify.proofs.walk.state.WalkStateProgress.is_met.Goals as goal

pub returns : goal.returns
returns c =
    let plans = c.args.self.now.plans in
    let h = c.args.self.now.history in
    let x = c.args.id in
    let is = sym (ap (λ (ps : List Plan). op_at ps x) c.sched.ensures) ∙ c.op.ensures.op in
    let kind = kind_from_op plans x c.op.result.now c.op.result.now.kind is (λ i. c.op.result.now.kind) in
    let done : c.is_done.result ≡ happened c.class_at.result x h = c.is_done.ensures ∙ ap (λ (e : OpProgress). is_done e c.class_at.result) c.entry.ensures ∙ done_known plans h x c.class_at.result in
    done ∙ happened_iff_met plans h x _ c.args.when c.class_at.result kind c.class_at.ensures
