use Rattle.std.proofs.Common.{◌≡◌, ◌++◌, map, take, drop}
use Rattle.goal_parser.specs.Slots.{note_at}
use Rattle.goal_parser.proofs.names.resolve_notes.Given as goal

abbrev pub invariant-loop-note : goal.invariant-loop-note
invariant-loop-note l = l.notes ≡ map (note_at l.labels.slots) (take l.note-index l.initial.notes) ++ drop l.note-index l.initial.notes
