use Rattle.std.proofs.Common.{◌+◌, ◌≡◌, ◌*◌, ◌≤◌, All, take}
use Rattle.std.specs.List.{sum_by}
use Rattle.goal_limits.specs.Limits.{slot_limit}
use Rattle.goal_blocks.specs.Certification.{NamesLowSlots, moved_count}
use Rattle.goal_certify.proofs.sizes.count_all_moved.Given as goal

-- the notes so far name low slots, and are counted
abbrev pub invariant-loop-note : goal.invariant-loop-note
invariant-loop-note l = record {
  counted : l.count ≡ sum_by moved_count (take l.note-index l.notes);
  few : l.count ≤ l.note-index * (slot_limit + 1);
  low : All NamesLowSlots (take l.note-index l.notes);
}
