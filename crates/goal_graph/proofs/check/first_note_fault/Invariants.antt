use Rattle.std.proofs.Common.{◌≡◌, All, take, drop}
use Rattle.goal_graph.specs.Fault.{note_fault, first_fault}
use Rattle.goal_graph.specs.Widths.{IsNoteInWidth}
use Rattle.goal_graph.proofs.check.first_note_fault.Given as goal

-- the notes so far have no fault
abbrev pub invariant-loop-number : goal.invariant-loop-number
invariant-loop-number l = record {
  none_yet : first_fault (note_fault l.ops l.rank) l.number (drop l.number l.notes) ≡ first_fault (note_fault l.ops l.rank) 0 l.notes;
  widths : All IsNoteInWidth (take l.number l.notes);
}
