use Rattle.std.proofs.Common.{ℕ, ◌<◌, ◌≡◌, ◌++◌, List, length, flat_map, ap, ◌∙◌, arith}
use Rattle.goal_graph.specs.Schedule.{Plan}
use Rattle.goal_blocks.specs.Slots.{Adding, added_by}
use Rattle.goal_blocks.specs.SlotRanges.{SlotRange, ranges_by}
use Rattle.goal_blocks.proofs.SlotRows.{row_pushed}
use Rattle.goal_blocks.proofs.slot_table.listed_by_operation.Goals as goal

pub loop-op-preserved : goal.loop-op-preserved
loop-op-preserved c =
    let plan : Plan = c.args.plan.now in
    let op : ℕ = c.loop-op.op in
    let inv = c.loop-op.invariant in
    let size = ap (λ (p : Plan). length p.ops) c.plan.view_is in
    let inside : op < length plan.ops = omega (arith, c.loop-op-test.true, c.len-op-end.ensures, size, c.plan.inside.ops.ok.0) in
    let moves : c.deref.result.now ≡ flat_map (ranges_by op) plan.notes = c.deref.ensures.value ∙ ap (λ v. v.items) c.index.ensures ∙ c.in_ok-moves.ensures.each op _ inside in
    let sums : c.deref-in-loop-op.result.now ≡ flat_map (added_by op) plan.notes = c.deref-in-loop-op.ensures.value ∙ ap (λ v. v.items) c.index-in-loop-op.ensures ∙ c.in_ok-adds.ensures.each op _ inside in
    (row_pushed (λ k. flat_map (ranges_by k) plan.notes) op c.loop-op.moved_starts.items c.push.new.self.items c.loop-op.moved.items c.extend_from_slice.new.self.items c.len.result inv.0 (c.in_ok-extend_from_slice.ensures.items ∙ ap (λ (xs : List SlotRange). c.loop-op.moved.items ++ xs) moves) (omega (arith, c.len.ensures, c.extend_from_slice.new.self.ok.0)) c.in_ok-push.ensures.items, row_pushed (λ k. flat_map (added_by k) plan.notes) op c.loop-op.added_starts.items c.push-in-loop-op.new.self.items c.loop-op.added.items c.extend_from_slice-in-loop-op.new.self.items c.len-in-loop-op.result inv.1 (c.in_ok-extend_from_slice-2.ensures.items ∙ ap (λ (xs : List Adding). c.loop-op.added.items ++ xs) sums) (omega (arith, c.len-in-loop-op.ensures, c.extend_from_slice-in-loop-op.new.self.ok.0)) c.in_ok-push-2.ensures.items, omega (arith, inside))
