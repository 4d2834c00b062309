use Rattle.std.proofs.Common.{◌<◌, List, Some, get_or, length, ap, refl, sym, ◌∙◌, subst, arith}
use Rattle.std.proofs.lemmas.Bool.{both_ways}
use Rattle.goal_graph.specs.declared.plan.Need.{Need}
use Rattle.goal_graph.specs.declared.plan.When.TheVariants.{AfterEnd}
use Rattle.goal_graph.specs.Schedule.{Plan, op_at, needed}
use Rattle.goal_graph.proofs.ForCallers.{kind_from_op}
use Rattle.goal_certify.specs.WalkQueue.{class_at}
use Rattle.goal_graph.specs.Concerned.{waiting_on}
use Rattle.goal_graph.specs.Fault.{IsOp}
use Rattle.goal_certify.proofs.Queue.{queue_after_refresh, fewer_due}
use Rattle.goal_certify.proofs.walk.follow.follow_waiting.Goals as goal
use Rattle.goal_certify.proofs.Moved.{named_at_after_next_need, none_named_past_end}

abbrev none : Need
none = record { op = 0; when = AfterEnd }

pub refresh-requires : goal.refresh-requires
refresh-requires c =
    let d = get_or c.waiting_on-need-items.result.now c.loop-need.need-index none in
    record {
      exists = subst (λ (ps : List Plan). IsOp ps (needed c.args.action.op d)) c.sched-2.ensures (c.waiting_on-need-items.ensures.exist c.loop-need.need-index none c.loop-need-test.true);
      each = c.loop-need.invariant.0.each;
      cursors = c.loop-need.invariant.1;
    }

pub loop-need-preserved : goal.loop-need-preserved
loop-need-preserved c =
    let plans = c.args.state.now.plans in
    let items = c.waiting_on-need-items.ensures.waiting_on ∙ ap (λ (ps : List Plan). waiting_on ps c.args.action.op) c.sched-2.ensures in
    let k = c.loop-need.need-index in
    let d = get_or c.waiting_on-need-items.result.now k none in
    let within = subst (λ (ds : List Need). k < length ds) items c.loop-need-test.true in
    (queue_after_refresh plans _ _ _ _ _ _ c.loop-need.invariant.0 c.refresh.ensures.queue (λ slot y at n differ. named_at_after_next_need plans (waiting_on plans c.args.action.op) k none c.args.action.class c.args.action.op y within n (λ reached e. differ (e ∙ ap (λ (ds : List Need). needed c.args.action.op (get_or ds k none)) (sym items)))), c.refresh.ensures.cursors)

pub returns-clause-queue : goal.returns-clause-queue
returns-clause-queue c =
    let plans = c.args.state.now.plans in
    let items = c.waiting_on-need-items.ensures.waiting_on ∙ ap (λ (ps : List Plan). waiting_on ps c.args.action.op) c.sched-2.ensures in
    fewer_due plans _ _ _ _ c.loop-need.invariant.0 (λ slot y at n. none_named_past_end plans (waiting_on plans c.args.action.op) c.loop-need.need-index c.args.action.class c.args.action.op y (omega (arith, ap length items, c.loop-need-test.false)) n)

-- the need does not wait for the action
pub loop-need-preserved-then-not-is_moment : goal.loop-need-preserved-then-not-is_moment
loop-need-preserved-then-not-is_moment c =
    let plans = c.args.state.now.plans in
    let x = c.args.action.op in
    let items = c.waiting_on-need-items.ensures.waiting_on ∙ ap (λ (ps : List Plan). waiting_on ps x) c.sched-2.ensures in
    let k = c.loop-need.need-index in
    let within = subst (λ (ds : List Need). k < length ds) items c.loop-need-test.true in
    let is = sym (ap (λ (ps : List Plan). op_at ps x) c.sched.ensures) ∙ c.op.ensures.op in
    let kind = kind_from_op plans x c.op.result.now c.op.result.now.kind is refl in
    (fewer_due plans _ _ _ _ c.loop-need.invariant.0 (λ slot y at n. named_at_after_next_need plans (waiting_on plans x) k none c.args.action.class x y within n (λ reached. absurd (both_ways _ c.if-not-is_moment.true (c.is_moment.ensures.1 (ap (λ (ds : List Need). class_at (get_or ds k none).when (Some c.op.result.now.kind)) items ∙ ap (class_at (get_or (waiting_on plans x) k none).when) (sym kind) ∙ reached))))), c.loop-need.invariant.1)
