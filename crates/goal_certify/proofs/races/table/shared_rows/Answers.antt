use Rattle.std.proofs.Common.{◌≡◌, ◌++◌, take, drop, length, arith, ap, ◌∙◌}
use Rattle.goal_certify.proofs.Table.{empty_zeros, shared_same}
use Rattle.goal_certify.proofs.races.table.shared_rows.Goals as goal
use Rattle.goal_graph.proofs.ForCallers.{borrowed_whole_restored}

pub share_all-requires-clause-empty : goal.share_all-requires-clause-empty
share_all-requires-clause-empty c =
    empty_zeros c.deref_mut.result.now _ (c.deref_mut.ensures.value ∙ c.in_ok-rows.ensures.items_if_clones_equal (λ y e. e))

pub returns : goal.returns
returns c =
    let rows = c.in_ok-rows.rows in
    let new = c.share_all.new.rows in
    let same : length new ≡ length rows.items = omega (arith, c.share_all.auto.rows, ap length c.deref_mut.ensures.value) in
    let back : take rows.len (new ++ drop (length new) rows.items) ≡ new = borrowed_whole_restored rows.len new rows.items same (omega (arith, rows.ok.0)) in
    record {
      room = ap length back ∙ omega (arith, same, c.in_ok-rows.ensures.len);
      shared = shared_same c.args.touchers.now c.args.writers.now c.args.touches.now _ new back c.share_all.ensures;
    }
