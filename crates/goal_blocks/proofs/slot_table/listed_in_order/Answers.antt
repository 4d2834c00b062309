use Rattle.std.proofs.Common.{◌≡◌, List, length, ap, ◌∙◌, arith}
use Rattle.goal_graph.specs.declared.plan.Note.{Note}
use Rattle.goal_graph.specs.Schedule.{Plan}
use Rattle.goal_blocks.specs.Slots.{added_by}
use Rattle.goal_blocks.specs.SlotRanges.{ranges_by}
use Rattle.goal_blocks.proofs.SlotRows.{listed_so_far_with_next_op, listed_so_far_is_all}
use Rattle.goal_blocks.proofs.slot_table.listed_in_order.Goals as goal

pub loop-op-preserved : goal.loop-op-preserved
loop-op-preserved c =
    let notes : List Note = c.as_slice-notes.result.now in
    let inv = c.loop-op.invariant in
    let size = ap (λ (p : Plan). length p.ops) c.plan.view_is in
    (listed_so_far_with_next_op ranges_by notes c.loop-op.at c.in_ok-at.at c.loop-op.op c.loop-op.moved_starts.items c.push.new.self.items c.loop-op.moved.items c.push_notes.new.moved.items c.len.result inv.0 c.in_ok-at.ensures.moves (omega (arith, c.len.ensures, c.push_notes.new.moved.ok.0)) c.in_ok-push.ensures.items, listed_so_far_with_next_op added_by notes c.loop-op.at c.in_ok-at.at c.loop-op.op c.loop-op.added_starts.items c.push-in-loop-op.new.self.items c.loop-op.added.items c.push_notes.new.added.items c.len-in-loop-op.result inv.1 c.in_ok-at.ensures.adds (omega (arith, c.len-in-loop-op.ensures, c.push_notes.new.added.ok.0)) c.in_ok-push-2.ensures.items, c.in_ok-at.ensures.within, omega (arith, c.loop-op-test.true, c.len-op-end.ensures, size, c.plan.inside.ops.ok.0))

pub returns : goal.returns
returns c =
    let plan : Plan = c.args.plan.now in
    let same = c.as_slice-notes.ensures.value ∙ ap (λ (p : Plan). p.notes) c.plan.view_is in
    let size = ap (λ (p : Plan). length p.ops) c.plan.view_is in
    let count : c.loop-op.op ≡ length plan.ops = omega (arith, c.loop-op-test.false, c.loop-op.invariant.3, c.len-op-end.ensures, size, c.plan.inside.ops.ok.0) in
    record {
      moves = listed_so_far_is_all ranges_by c.as_slice-notes.result.now plan.notes c.loop-op.at c.loop-op.op (length plan.ops) c.loop-op.moved_starts.items c.loop-op.moved.items c.if-at-notes.false same count c.loop-op.invariant.0;
      sums = listed_so_far_is_all added_by c.as_slice-notes.result.now plan.notes c.loop-op.at c.loop-op.op (length plan.ops) c.loop-op.added_starts.items c.loop-op.added.items c.if-at-notes.false same count c.loop-op.invariant.1;
    }
