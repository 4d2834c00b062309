use Rattle.std.proofs.Common.{refl}
use Rattle.std.proofs.lemmas.Option.{slice_get-get_or, slice_get_within, get_or_from_slice_get}
use Rattle.goal_graph.specs.Schedule.{operations}
use Rattle.sim_match.proofs.Lines.{first_of_line, left_of_single, left_behind_first, first_has_link, op_at_place_exists}
use Rattle.sim_match.proofs.queues.without_first.Goals as goal

pub index-place-requires : goal.index-place-requires
index-place-requires c =
    let first = first_of_line (operations c.args.sched.now) c.args.next.now c.args.queue c.requires.line.0 c.requires.line.1 in
    op_at_place_exists c.args.sched.now first.0 c.args.queue.first first.1

pub returns-then-place-queue : goal.returns-then-place-queue
returns-then-place-queue c =
    left_of_single c.args.sched.now c.args.next.now c.args.queue _ c.index-place.result c.index-place.ensures.index c.if-place-queue.true refl

pub bounds-next-place : goal.bounds-next-place
bounds-next-place c =
    let link = first_has_link c.args.sched.now c.args.next.now c.args.queue c.args.queue c.index-place.result c.index-place.ensures.index c.if-place-queue.false c.requires.line.0 c.requires.line.1 in
    slice_get_within c.args.next.now c.index-place.result link.0 link.1

pub bounds-operations-behind : goal.bounds-operations-behind
bounds-operations-behind c =
    let link = first_has_link c.args.sched.now c.args.next.now c.args.queue c.args.queue c.index-place.result c.index-place.ensures.index c.if-place-queue.false c.requires.line.0 c.requires.line.1 in
    let read = get_or_from_slice_get c.args.next.now c.index-place.result link.0 0 link.1 in
    rw (read, c.operations.ensures.all) link.2

pub returns : goal.returns
returns c =
    let link = first_has_link c.args.sched.now c.args.next.now c.args.queue c.args.queue c.index-place.result c.index-place.ensures.index c.if-place-queue.false c.requires.line.0 c.requires.line.1 in
    let read = get_or_from_slice_get c.args.next.now c.index-place.result link.0 0 link.1 in
    left_behind_first c.args.sched.now c.args.next.now c.args.queue _ c.index-place.result c.index-place.ensures.index c.if-place-queue.false link.0 link.1 (rw (read, c.operations.ensures.all) (slice_get-get_or (operations c.args.sched.now) link.0 (record { rank = 0; op = 0 }) link.2)) refl refl
