use Rattle.std.proofs.Common.{◌-◌, ◌+◌, ◌≤◌, List, length, map, slice_get, slice_set, refl, arith, sym, ap, ◌∙◌, subst}
use Rattle.goal_graph.specs.Schedule.{operations}
use Rattle.sim_match.specs.declared.match_list.MatchEntry.{MatchEntry}
use Rattle.sim_match.specs.MatchLists.{MatchList, is_marked, IsReady, IsFirst, skipped_to}
use Rattle.sim_match.specs.Packed.{stretch, list_at}
use Rattle.sim_match.proofs.Packing.{list_of_number, list_of_number_unique, list_skipped, span_within, end_of, stretch_read, stretch_written, packed_written, read_part_of_list, list_length}
use Rattle.sim_match.proofs.match_lists.MatchLists.first.Goals as goal

pub index-span-requires : goal.index-span-requires
index-span-requires c =
    let within = span_within _ _ _ c.args.list c.self.view_is c.requires.within in
    omega (arith, within, c.self.inside.spans.ok.0)

pub slice_bounds-entries-end : goal.slice_bounds-entries-end
slice_bounds-entries-end c =
    let at = stretch_read _ _ _ c.args.list _ c.self.view_is c.requires.within c.index-span.ensures in
    let fits = c.self.invariant.fits c.args.list _ at in
    let within = c.self.invariant.within c.args.list _ at in
    omega (arith, fits, within, c.self.inside.entries.ok.0)

pub index_mut-requires : goal.index_mut-requires
index_mut-requires c =
    let within = span_within _ _ _ c.args.list c.self.view_is c.requires.within in
    omega (arith, within, c.self.inside.spans.ok.0)

pub first_that_waits-head-requires-clause-ready : goal.first_that_waits-head-requires-clause-ready
first_that_waits-head-requires-clause-ready c = λ room.
    let at = stretch_read _ _ _ c.args.list _ c.self.view_is c.requires.within c.index-span.ensures in
    let part = read_part_of_list c.index-span.result.now.start c.index-span.result.now.len c.deref.result.now c.self.inside.entries.items c.deref.ensures.value in
    let ready = c.requires.ready (list_at c.self.inside.entries.items _) (ap (λ (ws : List MatchList). slice_get ws c.args.list) (sym c.self.view_is) ∙ list_of_number _ _ c.self.invariant c.args.list _ at) in
    subst (λ (es : List MatchEntry). IsReady c.args.sched.now c.args.marks.now (record { entries = es; head = c.index-span.result.now.head; room = room })) (sym part) (record { exist = ready.exist; long = ready.long; within = ready.within; skipped = ready.skipped })

pub overflow_cast-head : goal.overflow_cast-head
overflow_cast-head c =
    let at = stretch_read _ _ _ c.args.list _ c.self.view_is c.requires.within c.index-span.ensures in
    let part = ap length (read_part_of_list c.index-span.result.now.start c.index-span.result.now.len c.deref.result.now c.self.inside.entries.items c.deref.ensures.value) in
    let long = list_length _ _ c.args.list _ c.self.invariant at in
    let low = (c.first_that_waits-head.ensures.first 0).within in
    omega (arith, low, part, long)

pub invariant_of-self : goal.invariant_of-self
invariant_of-self c =
    let at = stretch_read _ _ _ c.args.list _ c.self.view_is c.requires.within c.index-span.ensures in
    packed_written _ _ _ c.args.list _ c.self.view_is c.requires.within c.index-span.ensures c.self.invariant _ _ refl refl (c.self.invariant.fits c.args.list _ at)

pub returns-clause-first : goal.returns-clause-first
returns-clause-first c = λ w e.
    let end = end_of c.self.inside.spans.items (length c.self.inside.entries.items) c.args.list in
    let its = stretch c.index-span.result.now end in
    let at = stretch_read _ _ _ c.args.list _ c.self.view_is c.requires.within c.index-span.ensures in
    let written = stretch_written _ _ _ c.args.list _ c.self.view_is c.requires.within c.index-span.ensures _ _ refl refl in
    let is = list_of_number_unique _ _ c.self.invariant c.args.list _ at w (ap (λ (ws : List MatchList). slice_get ws c.args.list) c.self.view_is ∙ e) in
    let part = read_part_of_list c.index-span.result.now.start c.index-span.result.now.len c.deref.result.now c.self.inside.entries.items c.deref.ensures.value in
    let n = c.first_that_waits-head.result.0 in
    let found = c.first_that_waits-head.ensures.first (end - c.index-span.result.now.start) in
    let first = subst (λ (es : List MatchEntry). IsFirst (is_marked (operations c.args.sched.now) c.args.marks.now) (record { entries = es; head = c.index-span.result.now.head; room = end - c.index-span.result.now.start }) (record { entries = es; head = n; room = end - c.index-span.result.now.start }) c.first_that_waits-head.result.1) part found in
    (n, ap (map (list_at _)) written ∙ list_skipped _ _ c.self.invariant c.args.list _ at n ∙ ap (λ (ws : List MatchList). slice_set ws c.args.list (skipped_to (list_at c.self.inside.entries.items its) n)) c.self.view_is ∙ ap (λ (v : MatchList). slice_set c.args.self.now c.args.list (skipped_to v n)) is, subst (λ (v : MatchList). IsFirst (is_marked (operations c.args.sched.now) c.args.marks.now) v (skipped_to v n) c.first_that_waits-head.result.1) is first, subst (λ (v : MatchList). c.args.credit.now + v.head ≤ c.first_that_waits-head.new.credit + n + 1) is c.first_that_waits-head.ensures.looks)

pub first_that_waits-head-requires-clause-counted : goal.first_that_waits-head-requires-clause-counted
first_that_waits-head-requires-clause-counted c =
    let at = stretch_read _ _ _ c.args.list _ c.self.view_is c.requires.within c.index-span.ensures in
    let part = ap length (read_part_of_list c.index-span.result.now.start c.index-span.result.now.len c.deref.result.now c.self.inside.entries.items c.deref.ensures.value) in
    let counted = c.requires.counted (list_at c.self.inside.entries.items _) (ap (λ (ws : List MatchList). slice_get ws c.args.list) (sym c.self.view_is) ∙ list_of_number _ _ c.self.invariant c.args.list _ at) in
    omega (arith, part, counted)

pub returns-clause-less : goal.returns-clause-less
returns-clause-less c = c.first_that_waits-head.ensures.less
