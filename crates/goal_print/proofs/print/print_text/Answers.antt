use Rattle.std.proofs.Common.{ap, ◌∙◌, refl}
use Rattle.goal_print.specs.Canonical.{canonical}
use Rattle.goal_parser.specs.Reads.{reads}
use Rattle.goal_print.proofs.Ranks.{block_of_next_rank, all_blocks_printed}
use Rattle.goal_print.proofs.RoundTrip.{reads_canonical}
use Rattle.goal_print.proofs.print.print_text.Goals as goal

pub loop-rank-init : goal.loop-rank-init
unfolding canonical
loop-rank-init c = rw (c.in_ok-put_heading.ensures, c.new-out.ensures, c.plans-plans.ensures.plans) refl

pub loop-rank-preserved : goal.loop-rank-preserved
loop-rank-preserved c =
    rw c.in_ok-put_rank.ensures
    (block_of_next_rank c.loop-rank.rank c.plans-plans.result.now c.index-plans-rank.result c.loop-rank.out _ c.loop-rank-test.true c.index-plans-rank.is c.loop-rank.invariant)

pub returns : goal.returns
returns c =
    let text = c.into_bytes.ensures ∙ all_blocks_printed c.loop-rank.rank c.plans-plans.result.now c.loop-rank.out _ c.loop-rank-test.false c.loop-rank.invariant in
    let known = c.plans-plans.ensures in
    record { canonical = text; read_back = ap reads text ∙ reads_canonical c.args.sched.now known.accepted known.counts known.widths }
