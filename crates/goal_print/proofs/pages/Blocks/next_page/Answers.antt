use Rattle.std.proofs.Common.{◌≡◌, ◌≤◌, List, length, sym, ap, ◌∙◌, arith}
use Rattle.goal_graph.specs.Schedule.{Plan}
use Rattle.goal_print.specs.Canonical.{block}
use Rattle.goal_print.specs.Pages.{blocks_from}
use Rattle.goal_print.proofs.Ranks.{block_of_next_rank, all_blocks_printed, text_stays_nonempty, block_is_nonempty}
use Rattle.goal_print.proofs.pages.Blocks.next_page.Goals as goal
use Rattle.goal_print.proofs.pages.Blocks.next_page.Goals.{then-loop-rank-test+else-operations-lt-PAGE, else-loop-rank-test}

pub loop-rank-preserved : goal.loop-rank-preserved
loop-rank-preserved c =
    let rank = c.loop-rank.rank in
    let p = c.index-plans-rank.result in
    let inv = c.loop-rank.invariant in
    let ops : c.len.result ≡ length p.ops = c.len.ensures ∙ c.plan.inside.ops.ok.0 ∙ ap (λ (q : Plan). length q.ops) c.plan.view_is in
    rw c.in_ok-put_rank.ensures (
      block_of_next_rank rank c.plans-plans.result.now p c.loop-rank.out _ c.loop-rank-test.true c.index-plans-rank.is inv.0,
      λ some. text_stays_nonempty p.ops c.loop-rank.out (block rank p) c.loop-rank.operations (block_is_nonempty rank p) inv.1 (omega (arith, some, ops, c.saturating_add-operations.ensures)),
    )

pub returns-clause-end : goal.returns-clause-end
returns-clause-end c none =
    let rank = c.loop-rank.rank in
    let plans = c.plans-plans.result.now in
    let inv = c.loop-rank.invariant in
    let bare : length c.loop-rank.out ≡ 0 = ap length (sym c.into_bytes.ensures ∙ none) in
    let over : length plans ≤ rank = elim c.loop-rank-test.branch [
      | then-loop-rank-test+else-operations-lt-PAGE w ↦ (let some = inv.1 (omega (arith, w.if-operations-lt-PAGE.false)) in omega (arith, some, bare))
      | else-loop-rank-test w ↦ w.loop-rank-test.false
    ] in
    sym c.self.view_is ∙ ap (λ (ps : List Plan). blocks_from ps c.self.inside.done) (sym c.plans-plans.ensures.plans)
    ∙ sym (all_blocks_printed rank plans c.loop-rank.out _ over inv.0) ∙ sym c.into_bytes.ensures ∙ none
