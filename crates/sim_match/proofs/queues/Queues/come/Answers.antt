use Rattle.std.proofs.Common.{Some, length, refl, arith, sym, ap, ◌∙◌}
use Rattle.std.proofs.lemmas.Option.{slice_get_read}
use Rattle.std.proofs.lemmas.List.{length-set}
use Rattle.sim_match.specs.Matcher.{actions_of}
use Rattle.sim_match.specs.Queues.{come, waits_as}
use Rattle.sim_match.proofs.Queued.{come_within, comes_into_empty_queue, comes_last_in_queue, comes_and_takes_first, still_to_come, behind_to_come, none_taken, in_line, last_within, waits_as_means_same_side, not_waits_as_means_other_side, waits_as_own_side, waits_not_as_other_side, coming_op_is_next_action, coming_op_exists, other_side}
use Rattle.sim_match.proofs.queues.Queues.come.Goals as goal
use Rattle.goal_graph.proofs.ForCallers.{borrowed_whole_restored}

pub index-queue-requires : goal.index-queue-requires
index-queue-requires c =
    let within = come_within c.args.sched.now c.requires.kept.keys c.requires.kept.named c.requires.kept.listed (actions_of c.args.sched.now c.args.self.now.events.items) c.requires.kept.actions c.args.self.now.queues.items c.args.self.now.next.items c.requires.kept.queues c.args.side c.args.id c.requires.fresh c.args.list (c.requires.own c.requires.kept) in
    omega (arith, within, c.args.self.now.queues.ok.0)

pub alone-requires : goal.alone-requires
alone-requires c = coming_op_exists c.args.sched.now c.args.side c.args.id c.requires.fresh.suited

pub index_mut-requires : goal.index_mut-requires
index_mut-requires c =
    let within = come_within c.args.sched.now c.requires.kept.keys c.requires.kept.named c.requires.kept.listed (actions_of c.args.sched.now c.args.self.now.events.items) c.requires.kept.actions c.args.self.now.queues.items c.args.self.now.next.items c.requires.kept.queues c.args.side c.args.id c.requires.fresh c.args.list (c.requires.own c.requires.kept) in
    omega (arith, within, c.args.self.now.queues.ok.0)

pub behind-requires-clause-op : goal.behind-requires-clause-op
behind-requires-clause-op c = coming_op_exists c.args.sched.now c.args.side c.args.id c.requires.fresh.suited

pub behind-requires-clause-within : goal.behind-requires-clause-within
behind-requires-clause-within c =
    let at = slice_get_read c.args.self.now.queues.items (length c.args.self.now.queues.items) c.args.list c.index-queue.result.now refl (come_within c.args.sched.now c.requires.kept.keys c.requires.kept.named c.requires.kept.listed (actions_of c.args.sched.now c.args.self.now.events.items) c.requires.kept.actions c.args.self.now.queues.items c.args.self.now.next.items c.requires.kept.queues c.args.side c.args.id c.requires.fresh c.args.list (c.requires.own c.requires.kept)) c.index-queue.ensures in
    let low = last_within c.args.sched.now c.requires.kept.keys c.requires.kept.named c.requires.kept.listed (actions_of c.args.sched.now c.args.self.now.events.items) c.requires.kept.actions c.args.self.now.queues.items c.args.self.now.next.items c.requires.kept.queues c.args.side c.args.id c.requires.fresh c.args.list (c.requires.own c.requires.kept) c.index-queue.result.now at (ap (λ o. waits_as o c.args.side) ((c.in-Some.is ∙ ap (λ w. Some w) (waits_as_means_same_side c.in-Some.waits c.args.side (sym c.is.ensures ∙ c.if-is.true)))) ∙ waits_as_own_side c.args.side) in
    rw c.deref_mut.ensures.value low

pub index_mut-requires-then-is : goal.index_mut-requires-then-is
index_mut-requires-then-is c =
    let within = come_within c.args.sched.now c.requires.kept.keys c.requires.kept.named c.requires.kept.listed (actions_of c.args.sched.now c.args.self.now.events.items) c.requires.kept.actions c.args.self.now.queues.items c.args.self.now.next.items c.requires.kept.queues c.args.side c.args.id c.requires.fresh c.args.list (c.requires.own c.requires.kept) in
    omega (arith, within, c.args.self.now.queues.ok.0)

pub without_first-requires : goal.without_first-requires
without_first-requires c =
    let at = slice_get_read c.args.self.now.queues.items (length c.args.self.now.queues.items) c.args.list c.index-queue.result.now refl (come_within c.args.sched.now c.requires.kept.keys c.requires.kept.named c.requires.kept.listed (actions_of c.args.sched.now c.args.self.now.events.items) c.requires.kept.actions c.args.self.now.queues.items c.args.self.now.next.items c.requires.kept.queues c.args.side c.args.id c.requires.fresh c.args.list (c.requires.own c.requires.kept)) c.index-queue.ensures in
    record { line = rw c.deref.ensures.value (in_line c.args.sched.now c.requires.kept.keys c.requires.kept.named c.requires.kept.listed (actions_of c.args.sched.now c.args.self.now.events.items) c.requires.kept.actions c.args.self.now.queues.items c.args.self.now.next.items c.requires.kept.queues c.args.side c.args.id c.requires.fresh c.args.list (c.requires.own c.requires.kept) c.index-queue.result.now at (c.in-Some.is ∙ ap (λ w. Some w) (not_waits_as_means_other_side c.in-Some.waits c.args.side (sym c.is.ensures ∙ c.if-is.false)))) }

pub index_mut-requires-else-is : goal.index_mut-requires-else-is
index_mut-requires-else-is c =
    let within = come_within c.args.sched.now c.requires.kept.keys c.requires.kept.named c.requires.kept.listed (actions_of c.args.sched.now c.args.self.now.events.items) c.requires.kept.actions c.args.self.now.queues.items c.args.self.now.next.items c.requires.kept.queues c.args.side c.args.id c.requires.fresh c.args.list (c.requires.own c.requires.kept) in
    omega (arith, within, c.args.self.now.queues.ok.0)

pub returns-in-None-clause-kept : goal.returns-in-None-clause-kept
returns-in-None-clause-kept c =
    let at = slice_get_read c.args.self.now.queues.items (length c.args.self.now.queues.items) c.args.list c.index-queue.result.now refl (come_within c.args.sched.now c.requires.kept.keys c.requires.kept.named c.requires.kept.listed (actions_of c.args.sched.now c.args.self.now.events.items) c.requires.kept.actions c.args.self.now.queues.items c.args.self.now.next.items c.requires.kept.queues c.args.side c.args.id c.requires.fresh c.args.list (c.requires.own c.requires.kept)) c.index-queue.ensures in
    let queues = comes_into_empty_queue c.args.sched.now c.requires.kept.keys c.requires.kept.named c.requires.kept.listed (actions_of c.args.sched.now c.args.self.now.events.items) c.requires.kept.actions c.args.self.now.queues.items c.args.self.now.next.items c.requires.kept.queues c.args.side c.args.id c.requires.fresh c.args.list (c.requires.own c.requires.kept) c.index-queue.result.now at (ap (λ o. waits_as o (other_side c.args.side)) c.in-None.is) c.alone.result (ap (λ o. waits_as o c.args.side) c.in-None.is) c.alone.ensures.waits c.alone.ensures.first c.alone.ensures.last in
    record {
      keys = c.requires.kept.keys;
      listed = c.requires.kept.listed;
      few = c.requires.kept.few;
      named = c.requires.kept.named;
      actions = rw (c.push.ensures, coming_op_is_next_action c.args.sched.now c.args.self.now.events.items c.args.side c.args.id c.requires.fresh.suited) (c.requires.kept.actions, c.requires.fresh);
      queues = rw (c.push.ensures, coming_op_is_next_action c.args.sched.now c.args.self.now.events.items c.args.side c.args.id c.requires.fresh.suited) queues;
      to_come = rw (c.push.ensures, coming_op_is_next_action c.args.sched.now c.args.self.now.events.items c.args.side c.args.id c.requires.fresh.suited) (still_to_come c.args.sched.now c.requires.kept.keys c.requires.kept.named c.requires.kept.listed (actions_of c.args.sched.now c.args.self.now.events.items) c.requires.kept.actions c.args.self.now.queues.items c.args.self.now.next.items c.requires.kept.queues (come c.args.side c.args.id) c.requires.kept.to_come);
    }

pub returns-in-None-clause-taken : goal.returns-in-None-clause-taken
returns-in-None-clause-taken c =
    let at = slice_get_read c.args.self.now.queues.items (length c.args.self.now.queues.items) c.args.list c.index-queue.result.now refl (come_within c.args.sched.now c.requires.kept.keys c.requires.kept.named c.requires.kept.listed (actions_of c.args.sched.now c.args.self.now.events.items) c.requires.kept.actions c.args.self.now.queues.items c.args.self.now.next.items c.requires.kept.queues c.args.side c.args.id c.requires.fresh c.args.list (c.requires.own c.requires.kept)) c.index-queue.ensures in
    none_taken c.args.sched.now c.requires.kept.keys c.requires.kept.named c.requires.kept.listed (actions_of c.args.sched.now c.args.self.now.events.items) c.requires.kept.actions c.args.self.now.queues.items c.args.self.now.next.items c.requires.kept.queues c.args.side c.args.id c.requires.fresh c.args.list (c.requires.own c.requires.kept) c.index-queue.result.now at (ap (λ o. waits_as o (other_side c.args.side)) c.in-None.is)

pub returns-then-is-clause-kept : goal.returns-then-is-clause-kept
returns-then-is-clause-kept c =
    let at = slice_get_read c.args.self.now.queues.items (length c.args.self.now.queues.items) c.args.list c.index-queue.result.now refl (come_within c.args.sched.now c.requires.kept.keys c.requires.kept.named c.requires.kept.listed (actions_of c.args.sched.now c.args.self.now.events.items) c.requires.kept.actions c.args.self.now.queues.items c.args.self.now.next.items c.requires.kept.queues c.args.side c.args.id c.requires.fresh c.args.list (c.requires.own c.requires.kept)) c.index-queue.ensures in
    let linked = rw c.deref_mut.ensures.value at c.behind.ensures.linked in
    let long = ap length linked ∙ length-set c.args.self.now.next.items c.index-queue.result.now.last c.behind.result.last in
    let back = borrowed_whole_restored c.args.self.now.next.len c.behind.new.next c.args.self.now.next.items long (omega (arith, c.args.self.now.next.ok.0)) in
    let queues = comes_last_in_queue c.args.sched.now c.requires.kept.keys c.requires.kept.named c.requires.kept.listed (actions_of c.args.sched.now c.args.self.now.events.items) c.requires.kept.actions c.args.self.now.queues.items c.args.self.now.next.items c.requires.kept.queues c.args.side c.args.id c.requires.fresh c.args.list (c.requires.own c.requires.kept) c.index-queue.result.now at (ap (λ o. waits_as o (other_side c.args.side)) ((c.in-Some.is ∙ ap (λ w. Some w) (waits_as_means_same_side c.in-Some.waits c.args.side (sym c.is.ensures ∙ c.if-is.true)))) ∙ waits_not_as_other_side c.args.side) c.behind.result (ap (λ o. waits_as o c.args.side) ((c.in-Some.is ∙ ap (λ w. Some w) (waits_as_means_same_side c.in-Some.waits c.args.side (sym c.is.ensures ∙ c.if-is.true)))) ∙ waits_as_own_side c.args.side) (c.behind.ensures.waits ∙ (c.in-Some.is ∙ ap (λ w. Some w) (waits_as_means_same_side c.in-Some.waits c.args.side (sym c.is.ensures ∙ c.if-is.true)))) c.behind.ensures.first c.behind.ensures.last in
    record {
      keys = c.requires.kept.keys;
      listed = c.requires.kept.listed;
      few = c.requires.kept.few;
      named = c.requires.kept.named;
      actions = rw (c.push.ensures, coming_op_is_next_action c.args.sched.now c.args.self.now.events.items c.args.side c.args.id c.requires.fresh.suited) (c.requires.kept.actions, c.requires.fresh);
      queues = rw (back, linked, c.push.ensures, coming_op_is_next_action c.args.sched.now c.args.self.now.events.items c.args.side c.args.id c.requires.fresh.suited) queues;
      to_come = rw (back, linked, c.push.ensures, coming_op_is_next_action c.args.sched.now c.args.self.now.events.items c.args.side c.args.id c.requires.fresh.suited) (behind_to_come c.args.sched.now c.requires.kept.keys c.requires.kept.named c.requires.kept.listed (actions_of c.args.sched.now c.args.self.now.events.items) c.requires.kept.actions c.args.self.now.queues.items c.args.self.now.next.items c.requires.kept.queues c.args.side c.args.id c.requires.fresh c.args.list (c.requires.own c.requires.kept) c.index-queue.result.now at c.behind.result.last (ap (λ o. waits_as o c.args.side) ((c.in-Some.is ∙ ap (λ w. Some w) (waits_as_means_same_side c.in-Some.waits c.args.side (sym c.is.ensures ∙ c.if-is.true)))) ∙ waits_as_own_side c.args.side) c.requires.kept.to_come);
    }

pub returns-then-is-clause-taken : goal.returns-then-is-clause-taken
returns-then-is-clause-taken c =
    let at = slice_get_read c.args.self.now.queues.items (length c.args.self.now.queues.items) c.args.list c.index-queue.result.now refl (come_within c.args.sched.now c.requires.kept.keys c.requires.kept.named c.requires.kept.listed (actions_of c.args.sched.now c.args.self.now.events.items) c.requires.kept.actions c.args.self.now.queues.items c.args.self.now.next.items c.requires.kept.queues c.args.side c.args.id c.requires.fresh c.args.list (c.requires.own c.requires.kept)) c.index-queue.ensures in
    none_taken c.args.sched.now c.requires.kept.keys c.requires.kept.named c.requires.kept.listed (actions_of c.args.sched.now c.args.self.now.events.items) c.requires.kept.actions c.args.self.now.queues.items c.args.self.now.next.items c.requires.kept.queues c.args.side c.args.id c.requires.fresh c.args.list (c.requires.own c.requires.kept) c.index-queue.result.now at (ap (λ o. waits_as o (other_side c.args.side)) ((c.in-Some.is ∙ ap (λ w. Some w) (waits_as_means_same_side c.in-Some.waits c.args.side (sym c.is.ensures ∙ c.if-is.true)))) ∙ waits_not_as_other_side c.args.side)

pub returns-else-is-clause-kept : goal.returns-else-is-clause-kept
returns-else-is-clause-kept c =
    let at = slice_get_read c.args.self.now.queues.items (length c.args.self.now.queues.items) c.args.list c.index-queue.result.now refl (come_within c.args.sched.now c.requires.kept.keys c.requires.kept.named c.requires.kept.listed (actions_of c.args.sched.now c.args.self.now.events.items) c.requires.kept.actions c.args.self.now.queues.items c.args.self.now.next.items c.requires.kept.queues c.args.side c.args.id c.requires.fresh c.args.list (c.requires.own c.requires.kept)) c.index-queue.ensures in
    let meets = comes_and_takes_first c.args.sched.now c.requires.kept.keys c.requires.kept.named c.requires.kept.listed (actions_of c.args.sched.now c.args.self.now.events.items) c.requires.kept.actions c.args.self.now.queues.items c.args.self.now.next.items c.requires.kept.queues c.args.side c.args.id c.requires.fresh c.args.list (c.requires.own c.requires.kept) c.index-queue.result.now at (c.in-Some.is ∙ ap (λ w. Some w) (not_waits_as_means_other_side c.in-Some.waits c.args.side (sym c.is.ensures ∙ c.if-is.false))) c.without_first.result (rw c.deref.ensures.value at c.without_first.ensures) in
    record {
      keys = c.requires.kept.keys;
      listed = c.requires.kept.listed;
      few = c.requires.kept.few;
      named = c.requires.kept.named;
      actions = rw (c.push.ensures, coming_op_is_next_action c.args.sched.now c.args.self.now.events.items c.args.side c.args.id c.requires.fresh.suited) (c.requires.kept.actions, c.requires.fresh);
      queues = rw (c.push.ensures, coming_op_is_next_action c.args.sched.now c.args.self.now.events.items c.args.side c.args.id c.requires.fresh.suited) meets.0;
      to_come = rw (c.push.ensures, coming_op_is_next_action c.args.sched.now c.args.self.now.events.items c.args.side c.args.id c.requires.fresh.suited) (still_to_come c.args.sched.now c.requires.kept.keys c.requires.kept.named c.requires.kept.listed (actions_of c.args.sched.now c.args.self.now.events.items) c.requires.kept.actions c.args.self.now.queues.items c.args.self.now.next.items c.requires.kept.queues (come c.args.side c.args.id) c.requires.kept.to_come);
    }

pub returns-else-is-clause-taken : goal.returns-else-is-clause-taken
returns-else-is-clause-taken c =
    let at = slice_get_read c.args.self.now.queues.items (length c.args.self.now.queues.items) c.args.list c.index-queue.result.now refl (come_within c.args.sched.now c.requires.kept.keys c.requires.kept.named c.requires.kept.listed (actions_of c.args.sched.now c.args.self.now.events.items) c.requires.kept.actions c.args.self.now.queues.items c.args.self.now.next.items c.requires.kept.queues c.args.side c.args.id c.requires.fresh c.args.list (c.requires.own c.requires.kept)) c.index-queue.ensures in
    let meets = comes_and_takes_first c.args.sched.now c.requires.kept.keys c.requires.kept.named c.requires.kept.listed (actions_of c.args.sched.now c.args.self.now.events.items) c.requires.kept.actions c.args.self.now.queues.items c.args.self.now.next.items c.requires.kept.queues c.args.side c.args.id c.requires.fresh c.args.list (c.requires.own c.requires.kept) c.index-queue.result.now at (c.in-Some.is ∙ ap (λ w. Some w) (not_waits_as_means_other_side c.in-Some.waits c.args.side (sym c.is.ensures ∙ c.if-is.false))) c.without_first.result (rw c.deref.ensures.value at c.without_first.ensures) in
    meets.1
