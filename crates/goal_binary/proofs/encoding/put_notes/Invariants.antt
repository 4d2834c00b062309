use Rattle.std.proofs.Common.{◌≡◌, ◌++◌, take}
use Rattle.std.specs.List.{flat_map}
use Rattle.goal_binary.specs.File.{spelled_note}
use Rattle.goal_binary.proofs.encoding.put_notes.Given as goal

abbrev pub invariant-loop-note : goal.invariant-loop-note
invariant-loop-note l = l.out.items ≡ l.initial.out.items ++ flat_map (spelled_note l.layout) (take l.note-index l.notes)
