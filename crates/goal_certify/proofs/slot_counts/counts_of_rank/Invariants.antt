use Rattle.std.proofs.Common.{◌≡◌, ℕ, ◌<◌, ◌*◌, ◌≤◌, ◌^◌, length, get_or, take}
use Rattle.std.specs.List.{sum_by}
use Rattle.goal_blocks.specs.Slots.{moved_by}
use Rattle.goal_certify.proofs.slot_counts.counts_of_rank.Given as goal

-- the notes so far are counted
abbrev pub invariant-loop-note : goal.invariant-loop-note
invariant-loop-note l = record {
  long : length l.counts.items ≡ l.ops;
  counted : (op : ℕ) → op < l.ops → get_or l.counts.items op 0 ≡ sum_by (λ note. length (moved_by op note)) (take l.note-index l.notes);
  few : (op : ℕ) → get_or l.counts.items op 0 ≤ l.note-index * 2 ^ 32;
}
