use Rattle.std.proofs.Common.{◌≡◌, ℕ, ◌+◌, ◌<◌, ◌≤◌, List, [], ◌∷◌, ◌++◌, Some, Bool, true, false, cond, length, take, subst, ap, ◌∙◌, arith, is_some}
use Rattle.std.proofs.lemmas.List.{take_more}
use Rattle.goal_graph.specs.declared.action.OpId.{OpId}
use Rattle.goal_graph.specs.Schedule.{Plan, ops_at, operations}
use Rattle.sim_params.specs.Times.{mate}
use Rattle.goal_graph.proofs.ForCallers.{is_op_below}
use Rattle.sim_events.specs.Engine.{start_known, end_known}
use Rattle.sim_timeline.specs.Pages.{IsSummary, before_rank, is_unmatched_send}
use Rattle.sim_timeline.proofs.Ranks.{before_next_rank, at_place, place_within}
use Rattle.sim_timeline.proofs.TimelineLemmas.{summary_more}
use Rattle.sim_timeline.proofs.lines.sum_rank.Goals as goal

-- a count that grows by at most one stays within a bound that grows by one
adding_one_if_true_fits : (b : Bool) (n i : ℕ) → n ≤ i → n + cond b 1 0 ≤ i + 1
adding_one_if_true_fits true n i h = omega arith
adding_one_if_true_fits false n i h = omega arith

adding_one_if_false_fits : (b : Bool) (n i : ℕ) → n ≤ i → n + cond b 0 1 ≤ i + 1
adding_one_if_false_fits true n i h = omega arith
adding_one_if_false_fits false n i h = omega arith

pub op-requires : goal.op-requires
op-requires g c =
    is_op_below c.args.sched.now (record { rank = c.args.rank; op = c.loop-op.op }) (omega (arith, c.loop-op-test.true, c.op_count-op-end.ensures.count))

pub with-summary-requires-clause-stuck_fits : goal.with-summary-requires-clause-stuck_fits
with-summary-requires-clause-stuck_fits g c =
    let inside : c.loop-op.op < length (ops_at c.args.sched.now c.args.rank) = omega (arith, c.loop-op-test.true, c.op_count-op-end.ensures.count) in
    omega (arith, c.loop-op.invariant.1, place_within c.args.sched.now c.args.rank c.loop-op.op inside, c.requires.few)

pub with-summary-requires-clause-unmatched_fits : goal.with-summary-requires-clause-unmatched_fits
with-summary-requires-clause-unmatched_fits g c =
    let inside : c.loop-op.op < length (ops_at c.args.sched.now c.args.rank) = omega (arith, c.loop-op-test.true, c.op_count-op-end.ensures.count) in
    omega (arith, c.loop-op.invariant.2, place_within c.args.sched.now c.args.rank c.loop-op.op inside, c.requires.few)

pub loop-op-preserved : goal.loop-op-preserved
loop-op-preserved g c =
    let plans = c.args.sched.now in
    let costs = g.C.Costs.model c.args.engine.now.costs in
    let h = c.args.engine.now.history in
    let op = c.loop-op.op in
    let id : OpId = record { rank = c.args.rank; op = op } in
    let count = before_rank plans c.args.rank + op in
    let times = c.record.result in
    let inside : op < length (ops_at plans c.args.rank) = omega (arith, c.loop-op-test.true, c.op_count-op-end.ensures.count) in
    let next : count + 1 ≡ before_rank plans c.args.rank + (op + 1) = omega arith in
    let more = take_more (operations plans) count id (place_within plans c.args.rank op inside) ∙ ap (λ (y : OpId). take count (operations plans) ++ y ∷ []) (at_place plans c.args.rank op id inside) in
    let start = subst (λ (ps : List Plan). times.start ≡ start_known ps costs h id) c.requires.same c.record.ensures.start in
    let end = subst (λ (ps : List Plan). times.end ≡ end_known ps costs h id) c.requires.same c.record.ensures.end in
    let partner = subst (λ (ps : List Plan). times.partner ≡ mate ps costs h id) c.requires.same c.record.ensures.partner in
    let made : IsSummary plans costs h (take (count + 1) (operations plans)) c.with-summary.result.stuck c.with-summary.result.unmatched c.with-summary.result.finish =
    rw (more, c.with-summary.ensures.stuck, c.with-summary.ensures.unmatched, c.with-summary.ensures.finish, start, end, partner)
    (summary_more plans costs h (take count (operations plans)) id c.op.result.now _ _ _ c.loop-op.invariant.0 c.op.ensures.op) in (
      subst (λ (n : ℕ). IsSummary plans costs h (take n (operations plans)) c.with-summary.result.stuck c.with-summary.result.unmatched c.with-summary.result.finish) next made,
      omega (arith, c.with-summary.ensures.stuck, adding_one_if_false_fits (is_some times.end) c.loop-op.summary.stuck count c.loop-op.invariant.1),
      omega (arith, c.with-summary.ensures.unmatched, adding_one_if_true_fits (is_unmatched_send (Some c.op.result.now.kind) times.start times.partner) c.loop-op.summary.unmatched count c.loop-op.invariant.2),
    )

pub returns-clause-summary : goal.returns-clause-summary
returns-clause-summary g c =
    let plans = c.args.sched.now in
    let all : before_rank plans c.args.rank + c.loop-op.op ≡ before_rank plans (c.args.rank + 1) = omega (arith, before_next_rank plans c.args.rank, c.op_count-op-end.ensures.count, c.loop-op-test.false, c.loop-op.auto.op-end) in
    subst (λ (n : ℕ). IsSummary plans (g.C.Costs.model c.args.engine.now.costs) c.args.engine.now.history (take n (operations plans)) c.loop-op.summary.stuck c.loop-op.summary.unmatched c.loop-op.summary.finish) all c.loop-op.invariant.0

pub returns-clause-few_stuck : goal.returns-clause-few_stuck
returns-clause-few_stuck g c =
    omega (arith, c.loop-op.invariant.1, before_next_rank c.args.sched.now c.args.rank, c.op_count-op-end.ensures.count, c.loop-op-test.false, c.loop-op.auto.op-end)

pub returns-clause-few_unmatched : goal.returns-clause-few_unmatched
returns-clause-few_unmatched g c =
    omega (arith, c.loop-op.invariant.2, before_next_rank c.args.sched.now c.args.rank, c.op_count-op-end.ensures.count, c.loop-op-test.false, c.loop-op.auto.op-end)
