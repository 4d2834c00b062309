use Rattle.std.proofs.Common.{◌≡◌, ◌++◌, [], ◌∷◌, length, get_or, refl, sym, ap, ◌∙◌, arith, Vec, Global}
use Rattle.std.proofs.lemmas.List.{length-append, with_items_is}
use Rattle.goal_graph.specs.declared.plan.Note.TheVariants.{Adds}
use Rattle.goal_blocks.specs.Slots.{Adding, added_by}
use Rattle.goal_blocks.proofs.SlotLists.{each_holds_after_append, known_note_appends_items, known_note_appends_nothing}
use Rattle.goal_blocks.proofs.slot_table.added_of.Goals as goal
use Rattle.goal_blocks.proofs.slot_table.added_of.Goals.{in-Adds+in_ok-add_more-in-Adds, in-Moves}

pub loop-preserved : goal.loop-preserved
loop-preserved c =
    let had = c.loop.added.items in
    let none = c.new.result in
    let more = c.in_ok-push.ensures.items in
    let so_far = c.loop.invariant in (
      omega (arith, ap length more, length-append had (none ∷ []), so_far.0),
      λ k v h.
          ap (λ xs. (get_or xs k v).items) more ∙ each_holds_after_append (λ (w : Vec Adding Global). w.items ≡ []) had none c.loop.counter v so_far.0 (λ j below. so_far.1 j v below) c.new.ensures.items k h,
    )

pub loop-note-preserved : goal.loop-note-preserved
loop-note-preserved c =
    let notes = c.deref-note-items.result.now in
    let i = c.loop-note.note-index in
    let had = c.loop-note.added in
    let so_far = c.loop-note.invariant in
    let inside = c.loop-note-test.true in
    elim c.match-note.branch [
      | in-Adds+in_ok-add_more-in-Adds w ↦ (let note = w.in-Adds in
          let new = w.add_more.new.added in
          let more = w.in_ok-add_more-in-Adds.ensures in
          let same : w.deref_mut.result.now ≡ had.items = w.deref_mut.ensures.value in
          let long : length new ≡ length had.items = more.count ∙ ap length same in
          let are : c.match-note.added.items ≡ new = ap (λ v. v.items) w.added-is ∙ with_items_is had new (omega (arith, long, had.ok.0)) in (
            ap length are ∙ long ∙ so_far.0,
            λ k v h.
                ap (λ xs. (get_or xs k v).items) are
                ∙ more.each k v (omega (arith, h, so_far.0, ap length same))
                ∙ ap (λ xs. (get_or xs k v).items ++ added_by k (Adds note.op note.from note.to)) same
                ∙ ap (λ ks. ks ++ added_by k (Adds note.op note.from note.to)) (so_far.1 k v h)
                ∙ sym (known_note_appends_items (added_by k) notes i _ _ inside note.is),
          ))
      | in-Moves w ↦ (
        ap (λ v. length v.items) w.added-is ∙ so_far.0,
        λ k v h. ap (λ xs. (get_or xs.items k v).items) w.added-is ∙ so_far.1 k v h ∙ sym (known_note_appends_nothing (added_by k) notes i _ _ inside w.in-Moves.is refl),
      )
    ]
