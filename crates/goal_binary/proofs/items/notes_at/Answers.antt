use Rattle.std.proofs.Common.{◌≡◌, ℕ, ◌+◌, ◌∷◌, [], ◌++◌, sym, ap, ◌∙◌, length-append}
use Rattle.std.proofs.lemmas.Result.{err_from_is_err_and}
use Rattle.goal_binary.specs.Reading.{note_at, list_at}
use Rattle.goal_binary.proofs.Loop.{list_read_continues_after_item, list_read_fails_with_item, is_done}
use Rattle.goal_binary.proofs.items.notes_at.Goals as goal

pub returns-in_err-note-clause-notes : goal.returns-in_err-note-clause-notes
returns-in_err-note-clause-notes c =
    let item_at = note_at c.args.bytes.now c.args.layout in
    let p = err_from_is_err_and c.from_residual-in_err-note.result c.from_residual-in_err-note.ensures.1 in
    rw (p.1, p.2) (λ memory. list_read_fails_with_item item_at c.in_err-note.field-0.0 c.loop.notes.items c.args.count c.loop.counter c.loop.place (list_at item_at c.args.count c.args.at) c.loop-test.true (sym c.in_err-note.ensures) c.loop.invariant.so_far)

pub loop-preserved : goal.loop-preserved
loop-preserved c =
    let item_at = note_at c.args.bytes.now c.args.layout in
    let pushed : c.push.new.self.items ≡ c.loop.notes.items ++ c.in_ok-note.note ∷ [] = c.in_ok-push.ensures.items in
    rw pushed (record {
      so_far = list_read_continues_after_item item_at c.loop.notes.items c.args.count c.loop.counter c.loop.place c.in_ok-note.note c.in_ok-note.after (list_at item_at c.args.count c.args.at) c.loop-test.true (sym c.in_ok-note.ensures) c.loop.invariant.so_far;
      count = length-append c.loop.notes.items (c.in_ok-note.note ∷ []) ∙ ap (λ (n : ℕ). n + 1) c.loop.invariant.count;
    })

pub returns-clause-notes : goal.returns-clause-notes
returns-clause-notes c =
    let item_at = note_at c.args.bytes.now c.args.layout in
    is_done item_at c.loop.notes.items c.args.count c.loop.counter c.loop.place (list_at item_at c.args.count c.args.at) c.loop-test.false c.loop.invariant.so_far
