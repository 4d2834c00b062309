use Rattle.std.proofs.Common.{List, ◌≡◌, ◌++◌, ◌∷◌, [], take, refl, sym, ap, ◌∙◌, arith, subst, ◌+◌}
use Rattle.std.proofs.lemmas.List.{take_more, take_all}
use Rattle.goal_graph.specs.Schedule.{Plan}
use Rattle.goal_blocks.specs.RankSlots.{AreTabled}
use Rattle.goal_blocks.proofs.SlotRows.{no_ranks, tabled_with_next_rank}
use Rattle.goal_blocks.proofs.slot_table.SlotTable.new.Goals as goal

pub loop-plan-init : goal.loop-plan-init
loop-plan-init c = no_ranks _ _ refl c.new-ranks.ensures.items

pub loop-plan-preserved : goal.loop-plan-preserved
loop-plan-preserved c =
    let plans : List Plan = c.plans-plan-items.result.now in
    let before : List Plan = take c.loop-plan.plan-index plans in
    let more : take (c.loop-plan.plan-index + 1) plans ≡ before ++ c.plan-item.result ∷ [] = take_more plans c.loop-plan.plan-index c.plan-item.result (omega (arith, c.loop-plan-test.true)) ∙ ap (λ (p : Plan). before ++ p ∷ []) (sym c.plan-item.is) in
    let rows = tabled_with_next_rank before c.plan-item.result c.loop-plan.ranks.items c.in_ok-listed.field-0 c.loop-plan.invariant c.in_ok-listed.ensures in
    rw (more, c.in_ok-push.ensures.items) rows

pub invariant_of-result : goal.invariant_of-result
invariant_of-result c =
    let all : take c.loop-plan.plan-index c.plans-plan-items.result.now ≡ c.args.sched.now = take_all c.loop-plan.plan-index c.plans-plan-items.result.now c.loop-plan-test.false ∙ c.plans-plan-items.ensures.plans in
    subst (λ (ps : List Plan). AreTabled ps c.loop-plan.ranks.items) all c.loop-plan.invariant
