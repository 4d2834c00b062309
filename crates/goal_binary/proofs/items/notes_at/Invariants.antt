use Rattle.std.proofs.Common.{◌≡◌, ◌-◌, length}
use Rattle.goal_binary.specs.Reading.{note_at, list_at}
use Rattle.goal_binary.proofs.Loop.{with_front}
use Rattle.goal_binary.proofs.items.notes_at.Given as goal

abbrev pub invariant-loop : goal.invariant-loop
invariant-loop l = record {
  so_far : with_front l.notes.items (list_at (note_at l.bytes l.layout) (l.count - l.counter) l.place) ≡ list_at (note_at l.bytes l.layout) l.count l.at;
  count : length l.notes.items ≡ l.counter;
}
