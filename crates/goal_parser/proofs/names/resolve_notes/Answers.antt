use Rattle.std.proofs.Common.{rules, ap, ◌∙◌, arith, set}
use Rattle.std.proofs.lemmas.List.Edits.{map_over_more}
use Rattle.goal_parser.specs.Slots.{note_at}
use Rattle.goal_parser.proofs.names.resolve_notes.Goals as goal

pub loop-note-preserved : goal.loop-note-preserved
loop-note-preserved c =
    ap (set c.loop-note.notes c.loop-note.note-index) c.note_at.ensures
    ∙ map_over_more (note_at c.args.labels.now.slots) c.args.notes.now c.loop-note.notes c.loop-note.note-index _ (omega arith) c.loop-note.invariant (search (rules))
