use Rattle.std.proofs.Common.{◌≡◌, ◌≤◌, ◌++◌, length, take}
use Rattle.std.specs.List.{flat_map}
use Rattle.goal_print.specs.Canonical.{note_line}
use Rattle.goal_print.proofs.print.put_notes.Given as goal

-- the lines so far
abbrev pub invariant-loop-note : goal.invariant-loop-note
invariant-loop-note l =
    record {
      text : l.out ++ take l.end l.lines ≡ l.initial.out ++ flat_map note_line (take l.note-index l.notes);
      within : l.end ≤ length l.lines;
    }
