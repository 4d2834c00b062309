use Rattle.std.proofs.Common.{ℕ, ◌+◌, [], ◌∷◌, arith, sym, ap, ◌∙◌}
use Rattle.sim_match.specs.Matcher.{stood}
use Rattle.std.proofs.lemmas.List.{length-append}
use Rattle.sim_match.proofs.Kept.{length-actions_of, actions_of-arrival, arrival_counted, arrival_exists, arrival_met_exists, arrival_answers, unmet_after_arrival, arrival_keeps}
use Rattle.sim_match.proofs.Numbering.{same_numbers}
use Rattle.sim_match.proofs.match_table.MatchTable.arrive.Goals as goal
use Rattle.goal_graph.proofs.ForCallers.{borrowed_whole_restored}

pub overflow_add-self : goal.overflow_add-self
overflow_add-self g c =
    let counted = arrival_counted _ _ _ _ _ c.requires.kept.mirrors c.args.send c.requires.send c.requires.fresh in
    omega (arith, counted, length-actions_of c.args.sched.now c.args.self.now.events.items, c.join-met.ensures.count, c.requires.kept.count, c.requires.kept.few)

pub pair-requires-clause-op : goal.pair-requires-clause-op
pair-requires-clause-op g c =
    arrival_exists _ _ _ _ _ c.requires.kept.mirrors c.args.send c.requires.send c.requires.fresh

pub pair-requires-clause-other : goal.pair-requires-clause-other
pair-requires-clause-other g c =
    arrival_met_exists _ _ _ _ _ c.requires.kept.mirrors c.args.send c.requires.send c.requires.fresh _ _ (c.join-met.ensures.joined c.requires.kept)

pub returns-clause-kept : goal.returns-clause-kept
unfolding same_numbers
returns-clause-kept g c =
    let changes = rw (c.deref_mut.ensures.value, c.join-met.ensures.marks) at c.pair.ensures.paired in
    let long = rw (c.deref_mut.ensures.value, c.join-met.ensures.marks) at c.pair.ensures.long in
    let back = borrowed_whole_restored c.join-met.new.self.marks.len c.pair.new.marks c.join-met.new.self.marks.items (rw c.deref_mut.ensures.value at c.pair.ensures.long) (omega (arith, c.join-met.new.self.marks.ok.0)) in
    let kept = arrival_keeps _ _ _ _ _ c.requires.kept.mirrors c.args.send c.requires.send c.requires.fresh _ _ (c.join-met.ensures.joined c.requires.kept) c.pair.new.marks changes long in
    record {
      few = c.requires.kept.few;
      covered = c.join-met.ensures.covered;
      bounded = rw (c.push.ensures, c.join-met.ensures.events) (omega (arith, length-append c.args.self.now.events.items (c.args.send ∷ []), c.requires.kept.bounded, c.join-met.ensures.bounded));
      count = rw (c.push.ensures, c.join-met.ensures.events) (omega (arith, length-append c.args.self.now.events.items (c.args.send ∷ []), c.requires.kept.count, c.join-met.ensures.count));
      standing = rw (c.push.ensures, c.join-met.ensures.events, actions_of-arrival _ _ c.args.send c.requires.send) (c.join-met.ensures.standing ∙ ap (λ (n : ℕ). n + stood c.join-met.result) c.requires.kept.standing ∙ sym (unmet_after_arrival _ _ _ _ _ c.requires.kept.mirrors c.args.send c.requires.send c.requires.fresh _ _ (c.join-met.ensures.joined c.requires.kept)));
      as_many = c.join-met.ensures.as_many;
      numbered = same_numbers _ _ _ c.join-met.ensures.numbers c.requires.kept.numbered;
      mirrors = rw (back, c.push.ensures, c.join-met.ensures.events, actions_of-arrival _ _ c.args.send c.requires.send) kept;
    }

pub returns-clause-taken : goal.returns-clause-taken
returns-clause-taken g c =
    c.pair.ensures.answer ∙ arrival_answers _ _ _ _ _ c.requires.kept.mirrors c.args.send c.requires.send c.requires.fresh _ _ (c.join-met.ensures.joined c.requires.kept)
