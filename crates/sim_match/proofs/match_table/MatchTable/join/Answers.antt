use Rattle.std.proofs.Common.{ℕ, ◌+◌, ◌≤◌, ◌<◌, ◌≡◌, false, [], Option, Some, None, is_some, length, arith, refl, sym, ap, ◌∙◌, subst}
use Rattle.std.proofs.lemmas.List.{length-set, take_all}
use Rattle.sim_match.specs.declared.match_list.MatchEntry.{MatchEntry}
use Rattle.sim_match.specs.Patterns.{lists_for}
use Rattle.sim_match.specs.Looks.{unseen}
use Rattle.sim_match.specs.MatchLists.{pushed}
use Rattle.sim_match.specs.Matcher.{actions_of, side_by_side, IsJoined, IsKept}
use Rattle.sim_match.proofs.Kept.{length-actions_of, arrival_counted, joined_none, sought_absent_pattern, sought_next_list, joined_absent_pattern, joined_next_list, join_within, join_ready, join_room}
use Rattle.sim_match.proofs.Unmet.{unmet_within_actions}
use Rattle.sim_match.proofs.Unseen.{unseen_read, search_covered, join_covered}
use Rattle.sim_match.proofs.Sides.{side_by_side_length, side_by_side_read, side_by_side_receives_set, side_by_side_sends_set, element_within}
use Rattle.sim_match.proofs.match_table.MatchTable.join.Goals as goal
use Rattle.sim_match.proofs.match_table.MatchTable.join.Goals.{in-Some, in-None, in-Some-number, in-None-number}

pub seek-init : goal.seek-init
seek-init g c = record {
  joined = λ kept. joined_none _ _ _ _ _ kept.mirrors c.args.send c.requires.send c.requires.fresh;
  as_many = c.requires.kept.as_many;
  numbers = refl;
  marks = refl;
  events = refl;
  count = refl;
  standing = refl;
  covered = c.requires.kept.covered;
  bounded = omega arith;
  counted = omega arith;
}

pub count-requires : goal.count-requires
count-requires g c =
    let counted = arrival_counted _ _ _ _ _ c.requires.kept.mirrors c.args.send c.requires.send c.requires.fresh in
    omega (arith, counted, c.seek-test.true, length-actions_of c.args.sched.now c.args.self.now.events.items, c.requires.kept.few, c.requires.kept.bounded, c.seek.invariant.bounded)

pub first-first-requires-clause-counted : goal.first-first-requires-clause-counted
first-first-requires-clause-counted g c = λ w e.
    let its = unseen_read c.seek.self.receives c.in-Some.list w e in
    omega (arith, its, c.seek.invariant.covered, c.count.ensures.more)

pub first-first-requires-clause-within : goal.first-first-requires-clause-within
first-first-requires-clause-within g c =
    let inside : c.seek.number-index < length (lists_for c.args.sched.now c.requires.kept.numbered.keys c.args.send) = omega (arith, c.seek-test.true, ap length (c.lists_of_send-numbers.ensures c.requires.kept.numbered)) in
    let within = join_within _ _ _ _ _ c.requires.kept.mirrors c.args.send c.requires.send c.requires.fresh c.seek.number-index _ inside c.in-Some.list (rw (c.lists_of_send-numbers.ensures c.requires.kept.numbered) at c.in-Some.is) _ _ _ _ (c.seek.invariant.joined c.requires.kept) in
    let long = side_by_side_length c.seek.self.receives c.seek.self.sends c.seek.invariant.as_many in
    omega (arith, within, long)

pub first-first-requires-clause-ready : goal.first-first-requires-clause-ready
first-first-requires-clause-ready g c = λ w e.
    let inside : c.seek.number-index < length (lists_for c.args.sched.now c.requires.kept.numbered.keys c.args.send) = omega (arith, c.seek-test.true, ap length (c.lists_of_send-numbers.ensures c.requires.kept.numbered)) in
    let within = join_within _ _ _ _ _ c.requires.kept.mirrors c.args.send c.requires.send c.requires.fresh c.seek.number-index _ inside c.in-Some.list (rw (c.lists_of_send-numbers.ensures c.requires.kept.numbered) at c.in-Some.is) _ _ _ _ (c.seek.invariant.joined c.requires.kept) in
    let long = side_by_side_length c.seek.self.receives c.seek.self.sends c.seek.invariant.as_many in
    let s = element_within c.seek.self.sends c.in-Some.list (omega (arith, within, long, c.seek.invariant.as_many)) in
    rw (c.deref.ensures.value, c.seek.invariant.marks) (join_ready _ _ _ _ _ c.requires.kept.mirrors c.args.send c.requires.send c.requires.fresh c.seek.number-index _ inside c.in-Some.list (rw (c.lists_of_send-numbers.ensures c.requires.kept.numbered) at c.in-Some.is) _ _ _ _ (c.seek.invariant.joined c.requires.kept) (record { receives = w; sends = s.0 }) (side_by_side_read c.seek.self.receives c.seek.self.sends c.in-Some.list w s.0 e s.1))

pub seek-preserved : goal.seek-preserved
seek-preserved g c =
    let inside : (kept : IsKept c.args.sched.now c.args.self.now) → c.seek.number-index < length (lists_for c.args.sched.now kept.numbered.keys c.args.send) = λ kept. omega (arith, c.seek-test.true, ap length (c.lists_of_send-numbers.ensures kept.numbered)) in
    elim c.match-number.branch [
      | in-Some w ↦
          let within = join_within _ _ _ _ _ c.requires.kept.mirrors c.args.send c.requires.send c.requires.fresh c.seek.number-index _ (inside c.requires.kept) w.in-Some.list (rw (c.lists_of_send-numbers.ensures c.requires.kept.numbered) at w.in-Some.is) _ _ _ _ (c.seek.invariant.joined c.requires.kept) in
          let long = side_by_side_length c.seek.self.receives c.seek.self.sends c.seek.invariant.as_many in
          let r = element_within c.seek.self.receives w.in-Some.list (omega (arith, within, long)) in
          let s = element_within c.seek.self.sends w.in-Some.list (omega (arith, within, long, c.seek.invariant.as_many)) in
          let first = w.first-first.ensures.first r.0 r.1 in
          let joined = λ (kept : IsKept c.args.sched.now c.args.self.now). sought_next_list _ _ _ _ _ kept.mirrors c.args.send c.requires.send c.requires.fresh c.seek.number-index _ (inside kept) w.in-Some.list (rw (c.lists_of_send-numbers.ensures kept.numbered) at w.in-Some.is) _ _ _ (c.seek.invariant.joined kept) (record { receives = r.0; sends = s.0 }) (side_by_side_read c.seek.self.receives c.seek.self.sends w.in-Some.list r.0 s.0 r.1 s.1) (record { receives = record { entries = r.0.entries; head = first.0; room = r.0.room }; sends = s.0 }) w.first-first.result (rw (w.deref.ensures.value, c.seek.invariant.marks) at first.2) refl in
          let sides = ap (λ rs. side_by_side rs c.seek.self.sends) first.1 ∙ side_by_side_receives_set c.seek.self.receives c.seek.self.sends w.in-Some.list _ s.0 s.1 in
          let less = ap length first.1 ∙ length-set c.seek.self.receives w.in-Some.list _ in
          let ready = join_ready _ _ _ _ _ c.requires.kept.mirrors c.args.send c.requires.send c.requires.fresh c.seek.number-index _ (inside c.requires.kept) w.in-Some.list (rw (c.lists_of_send-numbers.ensures c.requires.kept.numbered) at w.in-Some.is) _ _ _ _ (c.seek.invariant.joined c.requires.kept) (record { receives = r.0; sends = s.0 }) (side_by_side_read c.seek.self.receives c.seek.self.sends w.in-Some.list r.0 s.0 r.1 s.1) in
          let covered = search_covered c.seek.self.receives w.in-Some.list r.0 first.0 (unseen c.seek.self.sends) c.seek.self.credit w.count.new.self w.first-first.new.credit r.1 ready.within first.2.within c.seek.invariant.covered w.count.ensures.more first.3 in
          let both : unseen w.first-first.new.self + unseen c.seek.self.sends ≤ w.first-first.new.credit = rw first.1 covered in
          record {
            covered = rw w.self-is both;
            bounded = rw w.self-is (omega (arith, c.seek.invariant.bounded, w.count.ensures.more, w.first-first.ensures.less));
            counted = omega (arith, c.seek.invariant.counted, w.count.ensures.ticks);
            joined = λ kept. rw (w.self-is, w.met-is, w.earlier-met.ensures, sides) (joined kept);
            as_many = rw w.self-is (omega (arith, less, c.seek.invariant.as_many));
            numbers = rw w.self-is c.seek.invariant.numbers;
            marks = rw w.self-is c.seek.invariant.marks;
            events = rw w.self-is c.seek.invariant.events;
            count = rw w.self-is c.seek.invariant.count;
            standing = rw w.self-is c.seek.invariant.standing;
          }
      | in-None w ↦ record {
        covered = rw w.self-is c.seek.invariant.covered;
        bounded = rw w.self-is (omega (arith, c.seek.invariant.bounded));
        counted = omega (arith, c.seek.invariant.counted);
        joined = λ kept. rw (w.self-is, w.met-is) (sought_absent_pattern _ _ _ _ _ kept.mirrors c.args.send c.requires.send c.requires.fresh c.seek.number-index _ (inside kept) (rw (c.lists_of_send-numbers.ensures kept.numbered) at w.in-None.is) _ _ _ (c.seek.invariant.joined kept));
        as_many = rw w.self-is c.seek.invariant.as_many;
        numbers = rw w.self-is c.seek.invariant.numbers;
        marks = rw w.self-is c.seek.invariant.marks;
        events = rw w.self-is c.seek.invariant.events;
        count = rw w.self-is c.seek.invariant.count;
        standing = rw w.self-is c.seek.invariant.standing;
      }
    ]

-- an optional entry that is not `Some` is `None`
entry_none_if_not_some : (o : Option MatchEntry) → is_some o ≡ false → o ≡ None
entry_none_if_not_some None e = refl
entry_none_if_not_some (Some x) e = absurd (cc)

pub stand-init : goal.stand-init
stand-init g c = record {
  joined = λ kept.
      let lists = lists_for c.args.sched.now kept.numbered.keys c.args.send in
      let all = take_all c.seek.number-index lists (omega (arith, c.seek-test.false, ap length (c.lists_of_send-numbers.ensures kept.numbered))) in
      let none = entry_none_if_not_some c.seek.met (sym c.is_some.ensures ∙ c.if-is_some.false) in
      subst (IsJoined c.args.sched.now kept.numbered.keys (actions_of c.args.sched.now c.args.self.now.events.items) c.args.send [] lists (side_by_side c.seek.self.receives c.seek.self.sends)) none (subst (λ looked. IsJoined c.args.sched.now kept.numbered.keys (actions_of c.args.sched.now c.args.self.now.events.items) c.args.send [] looked (side_by_side c.seek.self.receives c.seek.self.sends) c.seek.met) all (c.seek.invariant.joined kept));
  as_many = c.seek.invariant.as_many;
  numbers = c.seek.invariant.numbers;
  marks = c.seek.invariant.marks;
  events = c.seek.invariant.events;
  count = c.seek.invariant.count;
  standing = ap (λ n. n + 1) c.seek.invariant.standing;
  covered = c.seek.invariant.covered;
  bounded = omega (arith, c.seek.invariant.bounded, c.seek.auto.number-index-end);
  counted = omega (arith, c.seek.invariant.counted, c.seek.auto.number-index-end);
}

pub overflow_add-self : goal.overflow_add-self
overflow_add-self g c =
    let counted = arrival_counted _ _ _ _ _ c.requires.kept.mirrors c.args.send c.requires.send c.requires.fresh in
    let short = unmet_within_actions c.args.sched.now (actions_of c.args.sched.now c.args.self.now.events.items) in
    omega (arith, counted, short, c.seek.invariant.standing, c.requires.kept.standing, c.requires.kept.few)

pub count-requires-in-Some-number : goal.count-requires-in-Some-number
count-requires-in-Some-number g c =
    let counted = arrival_counted _ _ _ _ _ c.requires.kept.mirrors c.args.send c.requires.send c.requires.fresh in
    omega (arith, counted, c.stand-test.true, length-actions_of c.args.sched.now c.args.self.now.events.items, c.requires.kept.few, c.requires.kept.bounded, c.stand.invariant.bounded)

pub push-requires-clause-within : goal.push-requires-clause-within
push-requires-clause-within g c =
    let inside : c.stand.number-index < length (lists_for c.args.sched.now c.requires.kept.numbered.keys c.args.send) = omega (arith, c.stand-test.true, ap length (c.lists_of_send-numbers.ensures c.requires.kept.numbered)) in
    let within = join_within _ _ _ _ _ c.requires.kept.mirrors c.args.send c.requires.send c.requires.fresh c.stand.number-index _ inside c.in-Some-number.list (rw (c.lists_of_send-numbers.ensures c.requires.kept.numbered) at c.in-Some-number.is) _ _ _ _ (c.stand.invariant.joined c.requires.kept) in
    let long = side_by_side_length c.stand.self.receives c.stand.self.sends c.stand.invariant.as_many in
    omega (arith, within, long, c.stand.invariant.as_many)

pub push-requires-clause-room : goal.push-requires-clause-room
push-requires-clause-room g c = λ w e.
    let inside : c.stand.number-index < length (lists_for c.args.sched.now c.requires.kept.numbered.keys c.args.send) = omega (arith, c.stand-test.true, ap length (c.lists_of_send-numbers.ensures c.requires.kept.numbered)) in
    let within = join_within _ _ _ _ _ c.requires.kept.mirrors c.args.send c.requires.send c.requires.fresh c.stand.number-index _ inside c.in-Some-number.list (rw (c.lists_of_send-numbers.ensures c.requires.kept.numbered) at c.in-Some-number.is) _ _ _ _ (c.stand.invariant.joined c.requires.kept) in
    let long = side_by_side_length c.stand.self.receives c.stand.self.sends c.stand.invariant.as_many in
    let r = element_within c.stand.self.receives c.in-Some-number.list (omega (arith, within, long)) in
    join_room _ _ _ _ _ c.requires.kept.mirrors c.args.send c.requires.send c.requires.fresh c.stand.number-index _ inside c.in-Some-number.list (rw (c.lists_of_send-numbers.ensures c.requires.kept.numbered) at c.in-Some-number.is) _ _ _ (c.stand.invariant.joined c.requires.kept) (record { receives = r.0; sends = w }) (side_by_side_read c.stand.self.receives c.stand.self.sends c.in-Some-number.list r.0 w r.1 e)

pub stand-preserved : goal.stand-preserved
stand-preserved g c =
    let inside : (kept : IsKept c.args.sched.now c.args.self.now) → c.stand.number-index < length (lists_for c.args.sched.now kept.numbered.keys c.args.send) = λ kept. omega (arith, c.stand-test.true, ap length (c.lists_of_send-numbers.ensures kept.numbered)) in
    elim c.match-number-2.branch [
      | in-Some-number w ↦
          let within = join_within _ _ _ _ _ c.requires.kept.mirrors c.args.send c.requires.send c.requires.fresh c.stand.number-index _ (inside c.requires.kept) w.in-Some-number.list (rw (c.lists_of_send-numbers.ensures c.requires.kept.numbered) at w.in-Some-number.is) _ _ _ _ (c.stand.invariant.joined c.requires.kept) in
          let long = side_by_side_length c.stand.self.receives c.stand.self.sends c.stand.invariant.as_many in
          let r = element_within c.stand.self.receives w.in-Some-number.list (omega (arith, within, long)) in
          let s = element_within c.stand.self.sends w.in-Some-number.list (omega (arith, within, long, c.stand.invariant.as_many)) in
          let at : c.args.self.now.count ≡ length (actions_of c.args.sched.now c.args.self.now.events.items) = omega (arith, c.requires.kept.count, length-actions_of c.args.sched.now c.args.self.now.events.items) in
          let added = w.push.ensures s.0 s.1 in
          let joined = λ (kept : IsKept c.args.sched.now c.args.self.now). joined_next_list _ _ _ _ _ kept.mirrors c.args.send c.requires.send c.requires.fresh c.stand.number-index _ (inside kept) w.in-Some-number.list (rw (c.lists_of_send-numbers.ensures kept.numbered) at w.in-Some-number.is) _ _ _ (c.stand.invariant.joined kept) (record { receives = r.0; sends = s.0 }) (side_by_side_read c.stand.self.receives c.stand.self.sends w.in-Some-number.list r.0 s.0 r.1 s.1) (record { receives = r.0; sends = pushed s.0 (record { op = c.args.send; at = c.seek.self.count }) }) refl (ap (λ (n : ℕ). pushed s.0 (record { op = c.args.send; at = n })) (c.seek.invariant.count ∙ at)) in
          let sides = ap (side_by_side c.stand.self.receives) added ∙ side_by_side_sends_set c.stand.self.receives c.stand.self.sends w.in-Some-number.list r.0 _ r.1 in
          let more = ap length added ∙ length-set c.stand.self.sends w.in-Some-number.list _ in
          let covered = join_covered c.stand.self.sends w.in-Some-number.list s.0 (record { op = c.args.send; at = c.seek.self.count }) (unseen c.stand.self.receives) c.stand.self.credit w.count-in-Some-number.new.self s.1 c.stand.invariant.covered w.count-in-Some-number.ensures.more in
          let both : unseen c.stand.self.receives + unseen w.push.new.self ≤ w.count-in-Some-number.new.self = rw added covered in
          record {
            covered = rw w.self-is both;
            bounded = rw w.self-is (omega (arith, c.stand.invariant.bounded, w.count-in-Some-number.ensures.more));
            counted = omega (arith, c.stand.invariant.counted, w.count-in-Some-number.ensures.ticks);
            joined = λ kept. rw (w.self-is, sides) (joined kept);
            as_many = rw w.self-is (omega (arith, more, c.stand.invariant.as_many));
            numbers = rw w.self-is c.stand.invariant.numbers;
            marks = rw w.self-is c.stand.invariant.marks;
            events = rw w.self-is c.stand.invariant.events;
            count = rw w.self-is c.stand.invariant.count;
            standing = rw w.self-is c.stand.invariant.standing;
          }
      | in-None-number w ↦ record {
        covered = rw w.self-is c.stand.invariant.covered;
        bounded = rw w.self-is (omega (arith, c.stand.invariant.bounded));
        counted = omega (arith, c.stand.invariant.counted);
        joined = λ kept. rw w.self-is (joined_absent_pattern _ _ _ _ _ kept.mirrors c.args.send c.requires.send c.requires.fresh c.stand.number-index _ (inside kept) (rw (c.lists_of_send-numbers.ensures kept.numbered) at w.in-None-number.is) _ _ _ (c.stand.invariant.joined kept));
        as_many = rw w.self-is c.stand.invariant.as_many;
        numbers = rw w.self-is c.stand.invariant.numbers;
        marks = rw w.self-is c.stand.invariant.marks;
        events = rw w.self-is c.stand.invariant.events;
        count = rw w.self-is c.stand.invariant.count;
        standing = rw w.self-is c.stand.invariant.standing;
      }
    ]

pub returns : goal.returns
returns g c = record {
  joined = λ kept.
      let lists = lists_for c.args.sched.now kept.numbered.keys c.args.send in
      let all = take_all c.stand.number-index lists (omega (arith, c.stand-test.false, ap length (c.lists_of_send-numbers.ensures kept.numbered))) in
      subst (λ stood. IsJoined c.args.sched.now kept.numbered.keys (actions_of c.args.sched.now c.args.self.now.events.items) c.args.send stood lists (side_by_side c.stand.self.receives c.stand.self.sends) None) all (c.stand.invariant.joined kept);
  numbers = c.stand.invariant.numbers;
  as_many = c.stand.invariant.as_many;
  marks = c.stand.invariant.marks;
  events = c.stand.invariant.events;
  count = c.stand.invariant.count;
  standing = c.stand.invariant.standing;
  covered = c.stand.invariant.covered;
  bounded = omega (arith, c.stand.invariant.bounded, c.stand.auto.number-index-end);
  counted = omega (arith, c.stand.invariant.counted, c.stand.auto.number-index-end);
}
