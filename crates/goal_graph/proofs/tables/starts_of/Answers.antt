-- Each rank's number of operations is added.
use Rattle.std.proofs.Common.{◌≡◌, ◌+◌, length, get_or, take, sym, ap, ◌∙◌, arith}
use Rattle.std.proofs.lemmas.List.{take_all}
use Rattle.goal_graph.specs.Schedule.{Plan}
use Rattle.goal_graph.specs.Fault.{op_count}
use Rattle.goal_graph.proofs.Places.{op_count-nil, op_count-more, op_count-more_le, AreStarts-nil, AreStarts-more}
use Rattle.goal_graph.proofs.tables.starts_of.Goals as goal

-- the length that is read is that of the rank's list
size : (c : goal.After-len) → c.len.result ≡ length (get_or c.args.plans.now c.loop-plan.plan-index c.plan-item.result).ops
size c = c.len.ensures ∙ c.plan.inside.ops.ok.0 ∙ ap (λ (p : Plan). length p.ops) (c.plan.view_is ∙ c.plan-item.is)

pub loop-plan-init : goal.loop-plan-init
loop-plan-init c = record {
  counted = sym op_count-nil;
  starts = rw (c.in_ok-push.ensures.items, c.in_ok-starts.ensures.items) AreStarts-nil;
}

pub overflow_cast-count : goal.overflow_cast-count
overflow_cast-count c =
    omega (arith, size c, op_count-more_le c.args.plans.now c.loop-plan.plan-index c.plan-item.result c.loop-plan-test.true)

pub overflow_add-count : goal.overflow_add-count
overflow_add-count c =
    omega (arith, size c, op_count-more_le c.args.plans.now c.loop-plan.plan-index c.plan-item.result c.loop-plan-test.true, c.loop-plan.invariant.counted)

pub loop-plan-preserved : goal.loop-plan-preserved
loop-plan-preserved c =
    let size : c.len.result ≡ length (get_or c.args.plans.now c.loop-plan.plan-index c.plan-item.result).ops =
    c.len.ensures ∙ c.plan.inside.ops.ok.0 ∙ ap (λ (p : Plan). length p.ops) (c.plan.view_is ∙ c.plan-item.is) in
    let counted : c.loop-plan.count + c.len.result ≡ op_count (take (c.loop-plan.plan-index + 1) c.args.plans.now) =
    omega (arith, size, op_count-more c.args.plans.now c.loop-plan.plan-index c.plan-item.result c.loop-plan-test.true, c.loop-plan.invariant.counted) in
    record {
      counted = counted;
      starts = rw c.in_ok-push-2.ensures.items (AreStarts-more c.args.plans.now c.loop-plan.plan-index _ c.loop-plan.starts.items c.loop-plan-test.true c.loop-plan.invariant.starts counted);
    }

pub returns : goal.returns
returns c = rw (take_all c.loop-plan.plan-index c.args.plans.now c.loop-plan-test.false) at c.loop-plan.invariant.starts
