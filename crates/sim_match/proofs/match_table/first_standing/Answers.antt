use Rattle.std.proofs.Common.{◌≡◌, None, not, slice_get, slice_set, find, refl, arith, sym, ap, ◌∙◌}
use Rattle.std.proofs.lemmas.Option.{get_or_from_slice_get}
use Rattle.std.proofs.lemmas.List.{set-get_or}
use Rattle.goal_graph.specs.Schedule.{operations}
use Rattle.sim_match.specs.declared.match_list.MatchEntry.{MatchEntry}
use Rattle.sim_match.specs.MatchLists.{is_marked, IsFirst}
use Rattle.sim_match.proofs.match_table.first_standing.Goals as goal

pub returns-then-standing-eq0-clause-first : goal.returns-then-standing-eq0-clause-first
returns-then-standing-eq0-clause-first c = λ w e.
    let lists = c.args.sends.now in
    let none = c.requires.none w e c.if-standing-eq0.true in
    let ready = c.requires.ready w e in
    let stays : lists ≡ slice_set lists c.args.list w = sym (ap (slice_set lists c.args.list) (sym (get_or_from_slice_get lists c.args.list w w e)) ∙ set-get_or lists c.args.list w) in
    let first : IsFirst (is_marked (operations c.args.sched.now) c.args.marks.now) w w None = record {
      found = ap (find (λ (f : MatchEntry). not (is_marked (operations c.args.sched.now) c.args.marks.now f.op))) (sym none);
      entries = refl;
      room = refl;
      within = ready.within;
      at_head = ap (λ es. slice_get es w.head) none;
      skipped = ready.skipped;
    } in
    (w.head, stays, first, omega arith)
