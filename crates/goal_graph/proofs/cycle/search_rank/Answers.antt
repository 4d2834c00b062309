-- In the end an operation that misses nothing has a depth, and one that misses something has none.
use Rattle.std.proofs.Common.{◌≡◌, length, drop, ◌∙◌, arith}
use Rattle.std.proofs.lemmas.List.{take_at}
use Rattle.goal_graph.proofs.Plain.{plain-counts}
use Rattle.goal_graph.proofs.Places.{no_plan, op_count-more_le}
use Rattle.goal_graph.proofs.Searching.{first_in_rank}
use Rattle.goal_graph.proofs.cycle.search_rank.Goals as goal

pub loop-done-preserved : goal.loop-done-preserved
loop-done-preserved c =
    let size : length c.finish.new.missing ≡ c.loop-done.search.missing.len = c.finish.auto.missing ∙ c.deref_mut.ensures.len in
    let same = take_at c.finish.new.missing (drop (length c.finish.new.missing) c.loop-done.search.missing.items) c.loop-done.search.missing.len size in
    record {
      search = rw same c.in_ok-finish.ensures.search;
      covers = rw same (λ p. size ∙ c.loop-done.search.missing.ok.0 ∙ c.loop-done.invariant.covers p);
      found = omega (arith, c.in_ok-finish.ensures.listed);
    }

pub first_missing-requires : goal.first_missing-requires
first_missing-requires c =
    rw c.deref.ensures.value
    (omega (arith, c.loop-done.invariant.covers no_plan, op_count-more_le c.args.tables.now c.args.rank no_plan c.requires.rank, (plain-counts c.args.tables.now c.requires.plain).ops))

pub returns : goal.returns
returns c =
    let i = c.loop-done.invariant in
    first_in_rank c.args.tables.now c.requires.plain c.args.rank c.requires.rank _ _ c.loop-done.done i.search i.covers
    (omega (arith, c.loop-done-test.false, c.len.ensures, c.loop-done.search.order.ok.0)) c.first_missing.result (rw c.deref.ensures.value at c.first_missing.ensures)
