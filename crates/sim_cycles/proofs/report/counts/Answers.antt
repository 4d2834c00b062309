use Rattle.std.proofs.Common.{ℕ, ◌<◌, ◌≡◌, ◌==◌, length, get_or, take, ◌∙◌, arith}
use Rattle.std.proofs.lemmas.List.{length-set, length-take, get_or_default}
use Rattle.std.proofs.lemmas.List.Sums.{count_by-le-length}
use Rattle.sim_cycles.proofs.ReportLemmas.{counted_one_more}
use Rattle.sim_cycles.proofs.report.counts.Goals as goal

pub overflow_add-index_mut : goal.overflow_add-index_mut
overflow_add-index_mut c =
    let heads = c.args.heads.now in
    let h = get_or heads c.loop-head.head-index 0 in
    let below : h < length heads = c.requires.inside c.loop-head.head-index c.loop-head-test.true in
    let value : c.index_mut.result.now ≡ get_or c.loop-head.counts.items h 0 = c.index_mut.ensures.value ∙ get_or_default c.loop-head.counts.items h _ 0 (omega (arith, below, c.loop-head.invariant.long)) in
    omega (arith, value, c.loop-head.invariant.each h below, count_by-le-length (λ (x : ℕ). x == h) (take c.loop-head.head-index heads), length-take c.loop-head.head-index heads, c.requires.short)

pub loop-head-preserved : goal.loop-head-preserved
loop-head-preserved c =
    let heads = c.args.heads.now in
    let h = get_or heads c.loop-head.head-index 0 in
    let below : h < length heads = c.requires.inside c.loop-head.head-index c.loop-head-test.true in
    let value : c.index_mut.result.now ≡ get_or c.loop-head.counts.items h 0 = c.index_mut.ensures.value ∙ get_or_default c.loop-head.counts.items h _ 0 (omega (arith, below, c.loop-head.invariant.long)) in record {
      long = length-set c.loop-head.counts.items h _ ∙ c.loop-head.invariant.long;
      each = counted_one_more heads c.loop-head.counts.items c.loop-head.head-index c.index_mut.result.now c.loop-head-test.true c.loop-head.invariant.long below c.loop-head.invariant.each value;
    }
