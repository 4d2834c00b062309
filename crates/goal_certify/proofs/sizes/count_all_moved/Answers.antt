use Rattle.std.proofs.Common.{refl}
use Rattle.std.proofs.lemmas.List.Elements.{All-more}
use Rattle.goal_blocks.specs.Certification.{NamesLowSlots}
use Rattle.goal_certify.proofs.Sizing.{moved_sum_with_next_note, moved_bound_with_next_note}
use Rattle.goal_certify.proofs.sizes.count_all_moved.Goals as goal

pub loop-note-preserved : goal.loop-note-preserved
loop-note-preserved c =
    let low = c.if-not-names_low_slots.ensures.0 refl in
    record {
      counted = moved_sum_with_next_note _ _ _ _ _ c.loop-note-test.true c.loop-note.invariant.counted c.count_moved-count.ensures.moved;
      few = moved_bound_with_next_note _ _ _ _ c.loop-note.invariant.few c.count_moved-count.ensures.moved low;
      low = All-more NamesLowSlots _ _ _ c.loop-note-test.true c.loop-note.invariant.low low;
    }
