-- Ranks are tried in order.
use Rattle.std.proofs.Common.{◌≤◌, ◌^◌, All, List, length, sym, ap, ◌∙◌, subst, arith}
use Rattle.std.specs.List.{Any}
use Rattle.goal_graph.specs.declared.plan.Note.{Note}
use Rattle.goal_graph.specs.Schedule.{Plan}
use Rattle.goal_blocks.specs.Certification.{NamesLowSlots}
use Rattle.goal_certify.proofs.StageLemmas.{free_large}
use Rattle.goal_certify.proofs.Sizing.{none_large_below_next_rank, none_large, stopped_by_ops, stopped_by_note, stopped_by_moves, rank_read, moves_more, few_notes}
use Rattle.goal_certify.proofs.sizes.check_sizes.Goals as goal

pub returns-then-len-gt-MAX_CERTIFIED_OPS-clause-fault : goal.returns-then-len-gt-MAX_CERTIFIED_OPS-clause-fault
returns-then-len-gt-MAX_CERTIFIED_OPS-clause-fault c =
    let at = rank_read _ _ _ _ c.plans-plan-items.ensures.plans c.loop-rank-test.true c.plan-item.is in
    let ops = c.plan.inside.ops.ok.0 in
    let same = ap (λ (p : Plan). length p.ops) c.plan.view_is in
    stopped_by_ops _ _ _ c.loop-rank.invariant.none at (omega (arith, c.len.ensures, ops, same, c.if-len-gt-MAX_CERTIFIED_OPS.true))

pub count_all_moved-requires : goal.count_all_moved-requires
count_all_moved-requires c =
    let at = rank_read _ _ _ _ c.plans-plan-items.ensures.plans c.loop-rank-test.true c.plan-item.is in
    let notes = c.deref.ensures.value ∙ ap (λ (p : Plan). p.notes) c.plan.view_is in
    subst (λ (ns : List Note). length ns ≤ 2 ^ 20) (sym notes) (few_notes _ _ _ c.plans-plan-items.ensures.counts at)

pub returns-in-None-clause-fault : goal.returns-in-None-clause-fault
returns-in-None-clause-fault c =
    let at = rank_read _ _ _ _ c.plans-plan-items.ensures.plans c.loop-rank-test.true c.plan-item.is in
    let notes = c.deref.ensures.value ∙ ap (λ (p : Plan). p.notes) c.plan.view_is in
    stopped_by_note _ _ _ c.loop-rank.invariant.none at (subst (Any (λ (n : Note). NamesLowSlots n → ⊥)) notes c.in-None.ensures.high)

pub returns-then-moved-gt-MAX_MOVED-clause-fault :
    goal.returns-then-moved-gt-MAX_MOVED-clause-fault
returns-then-moved-gt-MAX_MOVED-clause-fault c =
    let at = rank_read _ _ _ _ c.plans-plan-items.ensures.plans c.loop-rank-test.true c.plan-item.is in
    let notes = c.deref.ensures.value ∙ ap (λ (p : Plan). p.notes) c.plan.view_is in
    let more = moves_more c.args.sched.now c.loop-rank.rank c.plan-item.result c.deref.result.now c.loop-rank.moved c.in-Some.count at c.loop-rank.invariant.counted notes c.in-Some.ensures.moved in
    stopped_by_moves _ _ _ c.loop-rank.invariant.none at (omega (arith, more, c.if-moved-gt-MAX_MOVED.true))

pub loop-rank-preserved : goal.loop-rank-preserved
loop-rank-preserved c =
    let at = rank_read _ _ _ _ c.plans-plan-items.ensures.plans c.loop-rank-test.true c.plan-item.is in
    let notes = c.deref.ensures.value ∙ ap (λ (p : Plan). p.notes) c.plan.view_is in
    let more = moves_more c.args.sched.now c.loop-rank.rank c.plan-item.result c.deref.result.now c.loop-rank.moved c.in-Some.count at c.loop-rank.invariant.counted notes c.in-Some.ensures.moved in
    let ops = c.plan.inside.ops.ok.0 in
    let same = ap (λ (p : Plan). length p.ops) c.plan.view_is in
    record {
      counted = more;
      few = omega (arith, c.if-moved-gt-MAX_MOVED.false);
      none = none_large_below_next_rank _ _ _ c.loop-rank.invariant.none at (omega (arith, c.len.ensures, ops, same, c.if-len-gt-MAX_CERTIFIED_OPS.false)) (subst (All NamesLowSlots) notes c.in-Some.ensures.low) (omega (arith, more, c.if-moved-gt-MAX_MOVED.false));
    }

pub returns-clause-free : goal.returns-clause-free
returns-clause-free c =
    free_large _ (none_large _ _ c.loop-rank.invariant.none (omega (arith, c.loop-rank-test.false, ap length c.plans-plan-items.ensures.plans)))
