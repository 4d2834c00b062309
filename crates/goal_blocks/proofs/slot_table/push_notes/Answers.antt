use Rattle.std.proofs.Common.{◌<◌, length, sym, ◌∙◌, arith}
use Rattle.goal_blocks.specs.Slots.{added_by}
use Rattle.goal_blocks.specs.SlotRanges.{ranges_by}
use Rattle.goal_blocks.proofs.SlotRows.{row_pushed_with_next_note, ranges_apart, added_apart}
use Rattle.goal_blocks.proofs.slot_table.push_notes.Goals as goal

pub loop-next-preserved : goal.loop-next-preserved
loop-next-preserved c =
    let inside : c.loop-next.next < length c.args.notes.now = omega (arith, c.loop-next-test.true) in
    let own = sym c.op_of.ensures ∙ c.if-op_of-op.true in
    (row_pushed_with_next_note ranges_by c.args.notes.now c.args.at c.loop-next.next c.args.op _ c.args.moved.now.items c.loop-next.moved.items c.push_note.new.moved.items ranges_apart inside own c.loop-next.invariant.0 c.in_ok-push_note.ensures.moves, row_pushed_with_next_note added_by c.args.notes.now c.args.at c.loop-next.next c.args.op _ c.args.added.now.items c.loop-next.added.items c.push_note.new.added.items added_apart inside own c.loop-next.invariant.1 c.in_ok-push_note.ensures.adds, omega (arith, inside))
