use Rattle.std.proofs.Common.{append-nil, ◌≡◌, ◌++◌, ◌-◌, ◌+◌, arith, ap, sym, ◌∙◌, length, take, flat_map, get_or, List, length-append}
use Rattle.std.proofs.lemmas.List.{take_all}
use Rattle.goal_graph.specs.declared.plan.Note.TheVariants.{Moves}
use Rattle.goal_graph.specs.Schedule.{Plan}
use Rattle.goal_blocks.specs.Slots.{slots_from, moved_by}
use Rattle.goal_blocks.specs.SlotRanges.{slots_in}
use Rattle.goal_graph.proofs.ForCallers.{lengths-le}
use Rattle.goal_blocks.proofs.SlotLists.{flat_map_of_next_note, known_note_appends_items, known_note_appends_nothing, own_moves, other_moves, rank_below, slots_of_existing_op}
use Rattle.goal_blocks.proofs.slots.Slots.of.Goals as goal
use Rattle.goal_blocks.proofs.slots.Slots.of.Goals.{in-Moves+in_ok-push_range-in-Moves, in-Moves+else-op-id, in-Adds-1}

pub bounds-plans-id : goal.bounds-plans-id
bounds-plans-id c =
    let below = rank_below c.args.sched.now c.args.id c.requires in
    let same = ap length c.plans.ensures.plans in
    omega (arith, below, same)

pub loop-note-preserved : goal.loop-note-preserved
loop-note-preserved c =
    let op = c.args.id.op in
    let notes = c.deref-note-items.result.now in
    let i = c.loop-note.note-index in
    let so_far = c.loop-note.invariant in
    let inside = c.loop-note-test.true in
    elim c.match-note.branch [
      | in-Moves+in_ok-push_range-in-Moves w ↦ (let note = w.in-Moves in
          let more : slots_in c.match-note.ranges.items ≡ slots_in c.loop-note.ranges.items ++ slots_from note.lo (note.hi + 1 - note.lo) = ap (λ v. slots_in v.items) w.ranges-is ∙ w.in_ok-push_range-in-Moves.ensures.more in
          record {
            told =
                more ∙ ap (λ xs. xs ++ slots_from note.lo (note.hi + 1 - note.lo)) so_far.told
                ∙ ap (λ xs. flat_map (moved_by op) (take i notes) ++ xs) (sym (own_moves note.op op note.lo note.hi w.if-op-id.true))
                ∙ sym (known_note_appends_items (moved_by op) notes i _ _ inside note.is);
            few = omega (arith, ap length more, so_far.few, w.in_ok-push_range-in-Moves.ensures.few, length-append (slots_in c.loop-note.ranges.items) (slots_from note.lo (note.hi + 1 - note.lo)));
          })
      | in-Moves+else-op-id w ↦ (let note = w.in-Moves in
          record {
            told =
                ap (λ v. slots_in v.items) w.ranges-is ∙ so_far.told
                ∙ sym (known_note_appends_nothing (moved_by op) notes i _ _ inside note.is (other_moves note.op op note.lo note.hi w.if-op-id.false));
            few = omega (arith, ap (λ v. length (slots_in v.items)) w.ranges-is, so_far.few);
          })
      | in-Adds-1 w ↦ (let more = flat_map_of_next_note (moved_by op) notes i (Moves 0 0 0) inside in
          record {
            told = let same = so_far.told in grind (arith, append-nil);
            few = omega (arith, ap (λ v. length (slots_in v.items)) w.ranges-is, so_far.few);
          })
    ]

pub returns : goal.returns
returns c =
    let test = moved_by c.args.id.op in
    c.loop-note.invariant.told ∙ ap (flat_map test) (take_all c.loop-note.note-index c.deref-note-items.result.now c.loop-note-test.false)
    ∙ ap (flat_map test) c.deref-note-items.ensures.value
    ∙ ap (λ (p : Plan). flat_map test p.notes) (c.plan.view_is ∙ c.index-plans-id.is ∙ ap (λ (ps : List Plan). get_or ps c.args.id.rank c.index-plans-id.result) c.plans.ensures.plans)
    ∙ sym (slots_of_existing_op c.args.sched.now c.args.id c.requires c.index-plans-id.result)

pub invariant_of-result : goal.invariant_of-result
invariant_of-result c =
    let plans = c.args.sched.now in
    let p = c.index-plans-id.result in
    let le = lengths-le plans c.args.id.rank p (rank_below plans c.args.id c.requires) in
    let same = ap length c.deref-note-items.ensures.value ∙ ap (λ (q : Plan). length q.notes) (c.plan.view_is ∙ c.index-plans-id.is ∙ ap (λ (ps : List Plan). get_or ps c.args.id.rank p) c.plans.ensures.plans) in
    omega (arith, same, le.notes, c.plans.ensures.counts.notes, c.loop-note.invariant.few)
