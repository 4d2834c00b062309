use Rattle.std.proofs.Common.{◌≡◌, ◌++◌, [], ◌∷◌, length, get_or, refl, sym, ap, ◌∙◌, arith, Vec, Global}
use Rattle.std.proofs.lemmas.List.{length-append, with_items_is}
use Rattle.goal_graph.specs.declared.plan.Note.TheVariants.{Moves}
use Rattle.goal_blocks.specs.SlotRanges.{SlotRange, ranges_by}
use Rattle.goal_blocks.proofs.SlotLists.{each_holds_after_append, known_note_appends_items, known_note_appends_nothing}
use Rattle.goal_blocks.proofs.slot_table.moved_of.Goals as goal
use Rattle.goal_blocks.proofs.slot_table.moved_of.Goals.{in-Moves+in_ok-move_more-in-Moves, in-Adds}

pub loop-preserved : goal.loop-preserved
loop-preserved c =
    let had = c.loop.moved.items in
    let none = c.new.result in
    let more = c.in_ok-push.ensures.items in
    let so_far = c.loop.invariant in (
      omega (arith, ap length more, length-append had (none ∷ []), so_far.0),
      λ k v h.
          ap (λ xs. (get_or xs k v).items) more ∙ each_holds_after_append (λ (w : Vec SlotRange Global). w.items ≡ []) had none c.loop.counter v so_far.0 (λ j below. so_far.1 j v below) c.new.ensures.items k h,
    )

pub loop-note-preserved : goal.loop-note-preserved
loop-note-preserved c =
    let notes = c.deref-note-items.result.now in
    let i = c.loop-note.note-index in
    let had = c.loop-note.moved in
    let so_far = c.loop-note.invariant in
    let inside = c.loop-note-test.true in
    elim c.match-note.branch [
      | in-Moves+in_ok-move_more-in-Moves w ↦ (let note = w.in-Moves in
          let new = w.move_more.new.moved in
          let more = w.in_ok-move_more-in-Moves.ensures in
          let same : w.deref_mut.result.now ≡ had.items = w.deref_mut.ensures.value in
          let long : length new ≡ length had.items = more.count ∙ ap length same in
          let are : c.match-note.moved.items ≡ new = ap (λ v. v.items) w.moved-is ∙ with_items_is had new (omega (arith, long, had.ok.0)) in (
            ap length are ∙ long ∙ so_far.0,
            λ k v h.
                ap (λ xs. (get_or xs k v).items) are
                ∙ more.each k v (omega (arith, h, so_far.0, ap length same))
                ∙ ap (λ xs. (get_or xs k v).items ++ ranges_by k (Moves note.op note.lo note.hi)) same
                ∙ ap (λ ks. ks ++ ranges_by k (Moves note.op note.lo note.hi)) (so_far.1 k v h)
                ∙ sym (known_note_appends_items (ranges_by k) notes i _ _ inside note.is),
          ))
      | in-Adds w ↦ (
        ap (λ v. length v.items) w.moved-is ∙ so_far.0,
        λ k v h. ap (λ xs. (get_or xs.items k v).items) w.moved-is ∙ so_far.1 k v h ∙ sym (known_note_appends_nothing (ranges_by k) notes i _ _ inside w.in-Adds.is refl),
      )
    ]
