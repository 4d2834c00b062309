use Rattle.std.proofs.Common.{ℕ, ◌≡◌, [], ◌∷◌, length, arith, sym, ap, ap₂, ◌∙◌}
use Rattle.std.proofs.lemmas.List.{length-set, length-append}
use Rattle.sim_match.specs.MatchLists.{pushed}
use Rattle.sim_match.specs.Matcher.{actions_of, side_by_side}
use Rattle.sim_match.proofs.Kept.{length-actions_of, actions_of-post, unmet_after_post, no_unmet_no_waiting_sends, post_counted, post_exists, post_within, post_ready, post_room, post_met_exists, post_answers, post_keeps}
use Rattle.sim_match.proofs.Unseen.{unseen_read, join_and_search_covered}
use Rattle.sim_match.proofs.Sides.{side_by_side_length, side_by_side_read, side_by_side_set, element_within}
use Rattle.sim_match.proofs.match_table.MatchTable.post.Goals as goal
use Rattle.goal_graph.proofs.ForCallers.{borrowed_whole_restored}

pub overflow_add-self : goal.overflow_add-self
overflow_add-self g c =
    let counted = post_counted _ _ _ _ _ c.requires.kept.mirrors c.args.recv c.requires.receive c.requires.fresh in
    omega (arith, counted, length-actions_of c.args.sched.now c.args.self.now.events.items, c.requires.kept.count, c.requires.kept.few)

pub count-requires : goal.count-requires
count-requires g c =
    let counted = post_counted _ _ _ _ _ c.requires.kept.mirrors c.args.recv c.requires.receive c.requires.fresh in
    omega (arith, counted, length-actions_of c.args.sched.now c.args.self.now.events.items, c.requires.kept.few, c.requires.kept.bounded)

pub count-requires-2 : goal.count-requires-2
count-requires-2 g c =
    let counted = post_counted _ _ _ _ _ c.requires.kept.mirrors c.args.recv c.requires.receive c.requires.fresh in
    omega (arith, counted, length-actions_of c.args.sched.now c.args.self.now.events.items, c.requires.kept.few, c.requires.kept.bounded, c.count.ensures.more)

pub first_standing-met-requires-clause-counted : goal.first_standing-met-requires-clause-counted
first_standing-met-requires-clause-counted g c = λ w e.
    let its = unseen_read c.args.self.now.sends c.list_of_receive-list.result w e in
    omega (arith, its, c.requires.kept.covered, c.count.ensures.more, c.count-2.ensures.more)

pub push-requires-clause-within : goal.push-requires-clause-within
push-requires-clause-within g c =
    let within = post_within _ _ _ _ _ c.requires.kept.mirrors c.args.recv c.requires.receive c.requires.fresh c.list_of_receive-list.result (c.list_of_receive-list.ensures.list c.requires.kept.numbered) in
    let long = side_by_side_length c.args.self.now.receives c.args.self.now.sends c.requires.kept.as_many in
    omega (arith, within, long)

pub push-requires-clause-room : goal.push-requires-clause-room
push-requires-clause-room g c = λ w e.
    let within = post_within _ _ _ _ _ c.requires.kept.mirrors c.args.recv c.requires.receive c.requires.fresh c.list_of_receive-list.result (c.list_of_receive-list.ensures.list c.requires.kept.numbered) in
    let long = side_by_side_length c.args.self.now.receives c.args.self.now.sends c.requires.kept.as_many in
    let r = element_within c.args.self.now.receives c.list_of_receive-list.result (omega (arith, within, long)) in
    let s = element_within c.args.self.now.sends c.list_of_receive-list.result (omega (arith, within, long, c.requires.kept.as_many)) in
    post_room _ _ _ _ _ c.requires.kept.mirrors c.args.recv c.requires.receive c.requires.fresh c.list_of_receive-list.result (c.list_of_receive-list.ensures.list c.requires.kept.numbered) (record { receives = w; sends = s.0 }) (side_by_side_read c.args.self.now.receives c.args.self.now.sends c.list_of_receive-list.result w s.0 e s.1)

pub first_standing-met-requires-clause-within : goal.first_standing-met-requires-clause-within
first_standing-met-requires-clause-within g c =
    let within = post_within _ _ _ _ _ c.requires.kept.mirrors c.args.recv c.requires.receive c.requires.fresh c.list_of_receive-list.result (c.list_of_receive-list.ensures.list c.requires.kept.numbered) in
    let long = side_by_side_length c.args.self.now.receives c.args.self.now.sends c.requires.kept.as_many in
    omega (arith, within, long, c.requires.kept.as_many)

pub first_standing-met-requires-clause-ready : goal.first_standing-met-requires-clause-ready
first_standing-met-requires-clause-ready g c = λ w e.
    let within = post_within _ _ _ _ _ c.requires.kept.mirrors c.args.recv c.requires.receive c.requires.fresh c.list_of_receive-list.result (c.list_of_receive-list.ensures.list c.requires.kept.numbered) in
    let long = side_by_side_length c.args.self.now.receives c.args.self.now.sends c.requires.kept.as_many in
    let r = element_within c.args.self.now.receives c.list_of_receive-list.result (omega (arith, within, long)) in
    let s = element_within c.args.self.now.sends c.list_of_receive-list.result (omega (arith, within, long, c.requires.kept.as_many)) in
    rw c.deref.ensures.value (post_ready _ _ _ _ _ c.requires.kept.mirrors c.args.recv c.requires.receive c.requires.fresh c.list_of_receive-list.result (c.list_of_receive-list.ensures.list c.requires.kept.numbered) (record { receives = r.0; sends = w }) (side_by_side_read c.args.self.now.receives c.args.self.now.sends c.list_of_receive-list.result r.0 w r.1 e))

pub first_standing-met-requires-clause-none : goal.first_standing-met-requires-clause-none
first_standing-met-requires-clause-none g c = λ w e none.
    let within = post_within _ _ _ _ _ c.requires.kept.mirrors c.args.recv c.requires.receive c.requires.fresh c.list_of_receive-list.result (c.list_of_receive-list.ensures.list c.requires.kept.numbered) in
    let long = side_by_side_length c.args.self.now.receives c.args.self.now.sends c.requires.kept.as_many in
    let r = element_within c.args.self.now.receives c.list_of_receive-list.result (omega (arith, within, long)) in
    no_unmet_no_waiting_sends _ _ _ _ _ c.requires.kept.mirrors c.args.recv c.requires.receive c.requires.fresh c.list_of_receive-list.result (c.list_of_receive-list.ensures.list c.requires.kept.numbered) (record { receives = r.0; sends = w }) (side_by_side_read c.args.self.now.receives c.args.self.now.sends c.list_of_receive-list.result r.0 w r.1 e) (sym c.requires.kept.standing ∙ none)

pub pair-requires-clause-op : goal.pair-requires-clause-op
pair-requires-clause-op g c =
    post_exists _ _ _ _ _ c.requires.kept.mirrors c.args.recv c.requires.receive c.requires.fresh

pub pair-requires-clause-other : goal.pair-requires-clause-other
pair-requires-clause-other g c =
    let within = post_within _ _ _ _ _ c.requires.kept.mirrors c.args.recv c.requires.receive c.requires.fresh c.list_of_receive-list.result (c.list_of_receive-list.ensures.list c.requires.kept.numbered) in
    let long = side_by_side_length c.args.self.now.receives c.args.self.now.sends c.requires.kept.as_many in
    let r = element_within c.args.self.now.receives c.list_of_receive-list.result (omega (arith, within, long)) in
    let s = element_within c.args.self.now.sends c.list_of_receive-list.result (omega (arith, within, long, c.requires.kept.as_many)) in
    let at : c.args.self.now.count ≡ length (actions_of c.args.sched.now c.args.self.now.events.items) = omega (arith, c.requires.kept.count, length-actions_of c.args.sched.now c.args.self.now.events.items) in
    let first = c.first_standing-met.ensures.first s.0 s.1 in
    let grown = ap (λ (n : ℕ). pushed r.0 (record { op = c.args.recv; at = n })) at in
    post_met_exists _ _ _ _ _ c.requires.kept.mirrors c.args.recv c.requires.receive c.requires.fresh c.list_of_receive-list.result (c.list_of_receive-list.ensures.list c.requires.kept.numbered) (record { receives = r.0; sends = s.0 }) (side_by_side_read c.args.self.now.receives c.args.self.now.sends c.list_of_receive-list.result r.0 s.0 r.1 s.1) (record { receives = pushed r.0 (record { op = c.args.recv; at = c.args.self.now.count }); sends = record { entries = s.0.entries; head = first.0; room = s.0.room } }) c.first_standing-met.result (rw c.deref.ensures.value at first.2) grown

pub returns-clause-kept : goal.returns-clause-kept
returns-clause-kept g c =
    let within = post_within _ _ _ _ _ c.requires.kept.mirrors c.args.recv c.requires.receive c.requires.fresh c.list_of_receive-list.result (c.list_of_receive-list.ensures.list c.requires.kept.numbered) in
    let long = side_by_side_length c.args.self.now.receives c.args.self.now.sends c.requires.kept.as_many in
    let r = element_within c.args.self.now.receives c.list_of_receive-list.result (omega (arith, within, long)) in
    let s = element_within c.args.self.now.sends c.list_of_receive-list.result (omega (arith, within, long, c.requires.kept.as_many)) in
    let at : c.args.self.now.count ≡ length (actions_of c.args.sched.now c.args.self.now.events.items) = omega (arith, c.requires.kept.count, length-actions_of c.args.sched.now c.args.self.now.events.items) in
    let first = c.first_standing-met.ensures.first s.0 s.1 in
    let grown = ap (λ (n : ℕ). pushed r.0 (record { op = c.args.recv; at = n })) at in
    let changes = rw c.deref_mut.ensures.value at c.pair.ensures.paired in
    let marked = rw c.deref_mut.ensures.value at c.pair.ensures.long in
    let back = borrowed_whole_restored c.args.self.now.marks.len c.pair.new.marks c.args.self.now.marks.items marked (omega (arith, c.args.self.now.marks.ok.0)) in
    let kept = post_keeps _ _ _ _ _ c.requires.kept.mirrors c.args.recv c.requires.receive c.requires.fresh c.list_of_receive-list.result (c.list_of_receive-list.ensures.list c.requires.kept.numbered) (record { receives = r.0; sends = s.0 }) (side_by_side_read c.args.self.now.receives c.args.self.now.sends c.list_of_receive-list.result r.0 s.0 r.1 s.1) (record { receives = pushed r.0 (record { op = c.args.recv; at = c.args.self.now.count }); sends = record { entries = s.0.entries; head = first.0; room = s.0.room } }) c.first_standing-met.result (rw c.deref.ensures.value at first.2) grown c.pair.new.marks changes marked in
    let sides = ap₂ side_by_side (c.push.ensures r.0 r.1) first.1 ∙ side_by_side_set c.args.self.now.receives c.args.self.now.sends c.list_of_receive-list.result _ _ in
    let more = ap length (c.push.ensures r.0 r.1) ∙ length-set c.args.self.now.receives c.list_of_receive-list.result _ in
    let less = ap length first.1 ∙ length-set c.args.self.now.sends c.list_of_receive-list.result _ in
    let ready = post_ready _ _ _ _ _ c.requires.kept.mirrors c.args.recv c.requires.receive c.requires.fresh c.list_of_receive-list.result (c.list_of_receive-list.ensures.list c.requires.kept.numbered) (record { receives = r.0; sends = s.0 }) (side_by_side_read c.args.self.now.receives c.args.self.now.sends c.list_of_receive-list.result r.0 s.0 r.1 s.1) in
    let covered = join_and_search_covered c.args.self.now.receives c.args.self.now.sends c.list_of_receive-list.result r.0 s.0 (record { op = c.args.recv; at = c.args.self.now.count }) first.0 c.args.self.now.credit c.count-2.new.self c.first_standing-met.new.credit r.1 s.1 ready.within first.2.within c.requires.kept.covered (omega (arith, c.count.ensures.more, c.count-2.ensures.more)) first.3 in
    let longer = length-append c.args.self.now.events.items (c.args.recv ∷ []) in
    record {
      few = c.requires.kept.few;
      covered = rw (c.push.ensures r.0 r.1, first.1) covered;
      bounded = rw c.push-2.ensures (omega (arith, longer, c.requires.kept.bounded, c.count.ensures.more, c.count-2.ensures.more, c.first_standing-met.ensures.less));
      count = rw c.push-2.ensures (omega (arith, longer, c.requires.kept.count));
      standing = rw (c.push-2.ensures, actions_of-post _ _ c.args.recv c.requires.receive) (c.requires.kept.standing ∙ sym (unmet_after_post _ _ c.args.recv));
      numbered = c.requires.kept.numbered;
      as_many = omega (arith, more, less, c.requires.kept.as_many);
      mirrors = rw (sides, back, c.push-2.ensures, actions_of-post _ _ c.args.recv c.requires.receive) kept;
    }

pub returns-clause-taken : goal.returns-clause-taken
returns-clause-taken g c =
    let within = post_within _ _ _ _ _ c.requires.kept.mirrors c.args.recv c.requires.receive c.requires.fresh c.list_of_receive-list.result (c.list_of_receive-list.ensures.list c.requires.kept.numbered) in
    let long = side_by_side_length c.args.self.now.receives c.args.self.now.sends c.requires.kept.as_many in
    let r = element_within c.args.self.now.receives c.list_of_receive-list.result (omega (arith, within, long)) in
    let s = element_within c.args.self.now.sends c.list_of_receive-list.result (omega (arith, within, long, c.requires.kept.as_many)) in
    let at : c.args.self.now.count ≡ length (actions_of c.args.sched.now c.args.self.now.events.items) = omega (arith, c.requires.kept.count, length-actions_of c.args.sched.now c.args.self.now.events.items) in
    let first = c.first_standing-met.ensures.first s.0 s.1 in
    let grown = ap (λ (n : ℕ). pushed r.0 (record { op = c.args.recv; at = n })) at in
    c.pair.ensures.answer ∙ post_answers _ _ _ _ _ c.requires.kept.mirrors c.args.recv c.requires.receive c.requires.fresh c.list_of_receive-list.result (c.list_of_receive-list.ensures.list c.requires.kept.numbered) (record { receives = r.0; sends = s.0 }) (side_by_side_read c.args.self.now.receives c.args.self.now.sends c.list_of_receive-list.result r.0 s.0 r.1 s.1) (record { receives = pushed r.0 (record { op = c.args.recv; at = c.args.self.now.count }); sends = record { entries = s.0.entries; head = first.0; room = s.0.room } }) c.first_standing-met.result (rw c.deref.ensures.value at first.2) grown
