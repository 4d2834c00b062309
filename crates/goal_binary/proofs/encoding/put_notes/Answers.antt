use Rattle.std.proofs.Common.{◌++◌, ap, ◌∙◌}
use Rattle.std.specs.List.{flat_map}
use Rattle.std.proofs.lemmas.List.{take_all}
use Rattle.goal_binary.specs.File.{spelled_note}
use Rattle.goal_binary.proofs.Appended.{spelled_items_with_next}
use Rattle.goal_binary.proofs.encoding.put_notes.Goals as goal

pub loop-note-preserved : goal.loop-note-preserved
loop-note-preserved c =
    spelled_items_with_next (spelled_note c.args.layout) _ _ _ c.args.notes.now c.loop-note.note-index _ c.loop-note-test.true c.loop-note.invariant c.in_ok-put_note.ensures

pub returns : goal.returns
returns c =
    c.loop-note.invariant ∙ ap (λ xs. c.args.out.now.items ++ flat_map (spelled_note c.args.layout) xs) (take_all c.loop-note.note-index c.args.notes.now c.loop-note-test.false)
