use Rattle.std.proofs.Common.{ℕ, ◌≤◌, ◌^◌, ◌++◌, List, length, sym, ap, ◌∙◌, subst}
use Rattle.goal_graph.specs.declared.plan.Note.{Note}
use Rattle.goal_graph.specs.Schedule.{Plan}
use Rattle.goal_certify.proofs.Sizing.{rank_read, few_notes}
use Rattle.goal_certify.proofs.Counting.{slot_counts_with_next_plan, counts_none}
use Rattle.goal_certify.proofs.slot_counts.slot_counts.Goals as goal

pub counts_of_rank-requires : goal.counts_of_rank-requires
counts_of_rank-requires c =
    let at = rank_read _ _ _ _ c.plans-plan-items.ensures.plans c.loop-plan-test.true c.plan-item.is in
    let notes = c.deref.ensures.value ∙ ap (λ (p : Plan). p.notes) c.plan.view_is in
    subst (λ (ns : List Note). length ns ≤ 2 ^ 20) (sym notes) (few_notes _ _ _ c.plans-plan-items.ensures.counts at)

pub loop-plan-preserved : goal.loop-plan-preserved
loop-plan-preserved c =
    let at = rank_read _ _ _ _ c.plans-plan-items.ensures.plans c.loop-plan-test.true c.plan-item.is in
    let notes = c.deref.ensures.value ∙ ap (λ (p : Plan). p.notes) c.plan.view_is in
    let ops = c.len.ensures ∙ c.plan.inside.ops.ok.0 ∙ ap (λ (p : Plan). length p.ops) c.plan.view_is in
    let joined = c.in_ok-extend_from_slice.ensures.items ∙ ap (λ (ns : List ℕ). c.loop-plan.counts.items ++ ns) c.deref-in-loop-plan.ensures.value in
    slot_counts_with_next_plan _ _ _ _ _ _ _ _ at notes ops c.loop-plan.invariant c.in_ok-of_rank.ensures.long c.in_ok-of_rank.ensures.counted joined

pub loop-plan-init : goal.loop-plan-init
loop-plan-init c = c.in_ok-counts.ensures.items ∙ counts_none _
