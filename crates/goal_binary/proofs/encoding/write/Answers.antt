use Rattle.std.proofs.Common.{◌≡◌, ℕ, ◌≤◌, ◌<◌, List, ◌++◌, length, get_or, sum_by, ap, ◌∙◌, arith}
use Rattle.std.specs.List.{flat_map}
use Rattle.std.proofs.lemmas.List.{take_all}
use Rattle.std.proofs.lemmas.List.Sums.{sum_by_more_le}
use Rattle.goal_limits.specs.declared.limits.TheConstants.{MAX_OPS, MAX_DEPS, MAX_NOTES}
use Rattle.goal_graph.specs.Schedule.{Plan}
use Rattle.goal_graph.specs.Fault.{op_count, dep_count, note_count}
use Rattle.goal_binary.specs.File.{header, spelled_rank, written}
use Rattle.goal_binary.proofs.Appended.{spelled_items_with_next}
use Rattle.goal_binary.proofs.encoding.write.Goals as goal

-- a rank has at most as many as all ranks together
rank_count_within_total : (f : Plan → ℕ) (ps : List Plan) (i : ℕ) (p : Plan) (most : ℕ) → i < length ps → p ≡ get_or ps i p
    → sum_by f ps ≤ most → f p ≤ most
rank_count_within_total f ps i p most inside is all =
    let same : f p ≡ f (get_or ps i p) = ap f is in
    omega (arith, same, sum_by_more_le f ps i p inside, all)

pub put_rank-requires-clause-ops : goal.put_rank-requires-clause-ops
unfolding op_count
put_rank-requires-clause-ops c =
    let plans = c.plans-plans.result.now in
    let all : op_count plans ≤ MAX_OPS = rw c.plans-plans.ensures.plans c.plans-plans.ensures.counts.ops in
    omega (arith, rank_count_within_total (λ (p : Plan). length p.ops) plans c.loop-plan.plan-index c.plan-item.result _ c.loop-plan-test.true c.plan-item.is all)

pub put_rank-requires-clause-deps : goal.put_rank-requires-clause-deps
unfolding dep_count
put_rank-requires-clause-deps c =
    let plans = c.plans-plans.result.now in
    let all : dep_count plans ≤ MAX_DEPS = rw c.plans-plans.ensures.plans c.plans-plans.ensures.counts.deps in
    omega (arith, rank_count_within_total (λ (p : Plan). length p.deps) plans c.loop-plan.plan-index c.plan-item.result _ c.loop-plan-test.true c.plan-item.is all)

pub put_rank-requires-clause-notes : goal.put_rank-requires-clause-notes
unfolding note_count
put_rank-requires-clause-notes c =
    let plans = c.plans-plans.result.now in
    let all : note_count plans ≤ MAX_NOTES = rw c.plans-plans.ensures.plans c.plans-plans.ensures.counts.notes in
    omega (arith, rank_count_within_total (λ (p : Plan). length p.notes) plans c.loop-plan.plan-index c.plan-item.result _ c.loop-plan-test.true c.plan-item.is all)

pub loop-plan-preserved : goal.loop-plan-preserved
loop-plan-preserved c =
    let now = c.in_ok-put_rank.ensures ∙ ap (λ (p : Plan). c.loop-plan.out.items ++ spelled_rank c.args.layout p) c.plan-item.is in
    spelled_items_with_next (spelled_rank c.args.layout) _ _ _ c.plans-plans.result.now c.loop-plan.plan-index c.plan-item.result c.loop-plan-test.true c.loop-plan.invariant now

pub returns : goal.returns
unfolding written
returns c =
    let plans = take_all c.loop-plan.plan-index c.plans-plans.result.now c.loop-plan-test.false ∙ c.plans-plans.ensures.plans in
    record { file = c.loop-plan.invariant ∙ ap (λ (ps : List Plan). header c.args.layout c.args.sched.now ++ flat_map (spelled_rank c.args.layout) ps) plans }
