use Rattle.std.proofs.Common.{◌+◌}
use Rattle.goal_certify.proofs.Counting.{AreCounted, counted_adds, counted_with_move_past_ops, counted_read}
use Rattle.goal_certify.proofs.slot_counts.counts_of_rank.Goals as goal
use Rattle.goal_certify.proofs.slot_counts.counts_of_rank.Goals.{in-Moves+then-op-ops, in-Moves+else-op-ops, in-Adds}

pub loop-note-preserved : goal.loop-note-preserved
loop-note-preserved c =
    let i = c.loop-note.invariant in
    let are : AreCounted c.args.ops c.loop-note.counts.items c.args.notes.now c.loop-note.note-index = record { long = i.long; counted = i.counted; few = i.few } in
    let after : AreCounted c.args.ops c.match-note.counts.items c.args.notes.now (c.loop-note.note-index + 1) = elim c.match-note.branch [
      | in-Moves+then-op-ops w ↦
          rw w.counts-is (counted_read _ _ _ _ _ _ _ _ _ _ are c.loop-note-test.true w.in-Moves.is w.if-op-ops.true w.index_mut.ensures.value w.count_moved.ensures.moved w.count_moved.ensures.few)
      | in-Moves+else-op-ops w ↦ rw w.counts-is (counted_with_move_past_ops _ _ _ _ _ are c.loop-note-test.true _ _ _ w.in-Moves.is w.if-op-ops.false)
      | in-Adds w ↦ rw w.counts-is (counted_adds _ _ _ _ _ are c.loop-note-test.true _ _ _ w.in-Adds.is)
    ] in
    record { long = after.long; counted = after.counted; few = after.few }
