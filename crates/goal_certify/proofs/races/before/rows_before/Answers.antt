use Rattle.std.proofs.Common.{◌≡◌, ◌++◌, take, drop, length, arith, ap, sym, ◌∙◌}
use Rattle.goal_certify.specs.Rows.{has}
use Rattle.goal_certify.proofs.Before.{rows_at_start, rows_same}
use Rattle.goal_certify.proofs.races.before.rows_before.Goals as goal
use Rattle.goal_graph.proofs.ForCallers.{borrowed_whole_restored}

pub fill_all-requires-clause-rows : goal.fill_all-requires-clause-rows
fill_all-requires-clause-rows c =
    rows_at_start c.args.sched.now c.args.rank c.deref_mut.result.now c.deref_mut-2.result.now _ (λ r k few h. c.requires.empty r k few (sym (ap (λ rows. has rows r k) c.deref_mut.ensures.value ∙ c.in_ok-make_room.ensures.same r k) ∙ h)) (c.deref_mut-2.ensures.value ∙ c.in_ok-done.ensures.items_if_clones_equal (λ y e. e))

pub returns : goal.returns
returns c =
    let rows = c.make_room.new.rows in
    let new = c.fill_all.new.rows in
    let same : length new ≡ length rows.items = omega (arith, c.fill_all.auto.rows, ap length c.deref_mut.ensures.value) in
    let back : take rows.len (new ++ drop (length new) rows.items) ≡ new = borrowed_whole_restored rows.len new rows.items same (omega (arith, rows.ok.0)) in
    record {
      room = omega (arith, ap length back, same, c.in_ok-make_room.ensures.room, c.op_count-count.ensures.count);
      rows = rows_same c.args.sched.now c.args.rank _ new _ back c.in_ok-fill_all.ensures.rows;
    }
