use Rattle.std.proofs.Common.{◌≡◌, ◌<◌, Some, slice_get, slice_index, is_some, sym, ap, ◌∙◌, refl, subst, arith}
use Rattle.std.proofs.lemmas.Option.{slice_get-get_or, get_or_from_slice_get}
use Rattle.goal_graph.specs.Schedule.{operations}
use Rattle.goal_graph.specs.Fault.{IsOp}
use Rattle.sim_order.specs.Events.{event_before}
use Rattle.sim_queue.specs.Map.{IsEmptyMap, IsLeast}
use Rattle.sim_stations.specs.Stations.{both_free, pair_at, AreOfSlots, AreTimesOf}
use Rattle.sim_stations.proofs.Listed.{listed_exists}
use Rattle.sim_stations.proofs.Least.{listed, least_found, found_slot, sole_ahead, ahead_slot, row_key, turn_late, slot_within, not_empty, seen_empty_if_both_empty}
use Rattle.sim_stations.proofs.Times.{pair_of_station}
use Rattle.sim_stations.proofs.Settling.{settling, times_known_in_loop, waited, waited_less, went_over, over_less}
use Rattle.sim_stations.proofs.station_queue.settle.Goals as goal

pub looks-init : goal.looks-init
looks-init g c =
    settling c.args.ahead.now c.args.waiting.now c.args.rows.now c.args.stands.now c.args.steps.now c.args.moves.now c.requires.kept

pub index-slot-requires : goal.index-slot-requires
index-slot-requires g c =
    let plans = c.args.sched.now in
    let of_slots = subst (AreOfSlots (operations plans)) (sym c.looks.invariant.seen) c.requires.of_slots in
    let there = listed c.looks.ahead c.looks.waiting c.looks.rows c.looks.stands c.looks.invariant.kept c.in-Some.look.key c.in-Some.look.is_ahead c.in-Some.ensures.first (operations plans) of_slots in
    subst (IsOp plans) (sym c.id.ensures) (listed_exists plans there.0 c.in-Some.look.key.op there.1)

pub is_held_up-requires-clause-slot_in : goal.is_held_up-requires-clause-slot_in
is_held_up-requires-clause-slot_in g c =
    let plans = c.args.sched.now in
    let of_slots = subst (AreOfSlots (operations plans)) (sym c.looks.invariant.seen) c.requires.of_slots in
    let is_slot : slice_get (operations plans) c.index-slot.result ≡ Some c.in-Some.look.key.op = c.index-slot.ensures.index ∙ ap Some c.id.ensures in
    let within = slot_within c.looks.ahead c.looks.waiting c.looks.rows c.looks.stands c.looks.invariant.kept c.in-Some.look.key c.in-Some.look.is_ahead c.in-Some.ensures.first plans of_slots c.index-slot.result is_slot in
    omega (arith, within, c.looks.invariant.kept.mapped.grouped)

pub is_held_up-requires-clause-within : goal.is_held_up-requires-clause-within
is_held_up-requires-clause-within g c =
    let plans = c.args.sched.now in
    let of_slots = subst (AreOfSlots (operations plans)) (sym c.looks.invariant.seen) c.requires.of_slots in
    let is_slot : slice_get (operations plans) c.index-slot.result ≡ Some c.in-Some.look.key.op = c.index-slot.ensures.index ∙ ap Some c.id.ensures in
    let within = slot_within c.looks.ahead c.looks.waiting c.looks.rows c.looks.stands c.looks.invariant.kept c.in-Some.look.key c.in-Some.look.is_ahead c.in-Some.ensures.first plans of_slots c.index-slot.result is_slot in
    let there = slice_get-get_or c.looks.waiting.groups c.index-slot.result 0 (omega (arith, within, c.looks.invariant.kept.mapped.grouped)) in
    c.looks.invariant.kept.mapped.within c.index-slot.result (slice_index c.looks.waiting.groups c.index-slot.result) there

pub is_held_up-requires-clause-times : goal.is_held_up-requires-clause-times
is_held_up-requires-clause-times g c =
    let plans = c.args.sched.now in
    let of_slots = subst (AreOfSlots (operations plans)) (sym c.looks.invariant.seen) c.requires.of_slots in
    let is_slot : slice_get (operations plans) c.index-slot.result ≡ Some c.in-Some.look.key.op = c.index-slot.ensures.index ∙ ap Some c.id.ensures in
    let within = slot_within c.looks.ahead c.looks.waiting c.looks.rows c.looks.stands c.looks.invariant.kept c.in-Some.look.key c.in-Some.look.is_ahead c.in-Some.ensures.first plans of_slots c.index-slot.result is_slot in
    times_known_in_loop c.args.ahead.now c.args.waiting.now c.args.rows.now c.args.stands.now c.args.steps.now c.args.moves.now c.looks.ahead c.looks.waiting c.looks.rows c.looks.stands c.looks.steps c.looks.moves c.looks.invariant c.args.times.now c.requires.times c.index-slot.result within

pub returns-then-not-is_held_up-clause-none : goal.returns-then-not-is_held_up-clause-none
returns-then-not-is_held_up-clause-none g c =
    let some = not_empty c.looks.ahead c.looks.waiting c.looks.rows c.looks.stands c.looks.invariant.kept c.in-Some.look.key c.in-Some.look.is_ahead c.in-Some.ensures.first in
    (λ e. absurd (cc), λ empty. absurd (some (subst IsEmptyMap (sym c.looks.invariant.seen) empty)))

pub returns-then-not-is_held_up-clause-least : goal.returns-then-not-is_held_up-clause-least
returns-then-not-is_held_up-clause-least g c =
    let plans = c.args.sched.now in
    let of_slots = subst (AreOfSlots (operations plans)) (sym c.looks.invariant.seen) c.requires.of_slots in
    let is_slot : slice_get (operations plans) c.index-slot.result ≡ Some c.in-Some.look.key.op = c.index-slot.ensures.index ∙ ap Some c.id.ensures in
    let due = c.is_held_up.ensures.due c.if-not-is_held_up.true in
    let within = slot_within c.looks.ahead c.looks.waiting c.looks.rows c.looks.stands c.looks.invariant.kept c.in-Some.look.key c.in-Some.look.is_ahead c.in-Some.ensures.first plans of_slots c.index-slot.result is_slot in
    let there = slice_get-get_or c.looks.waiting.groups c.index-slot.result 0 (omega (arith, within, c.looks.invariant.kept.mapped.grouped)) in
    let least = least_found c.looks.ahead c.looks.waiting c.looks.rows c.looks.stands c.looks.invariant.kept c.in-Some.look.key c.in-Some.look.is_ahead c.in-Some.ensures.first plans of_slots c.index-slot.result is_slot (slice_index c.looks.waiting.groups c.index-slot.result) there due in
    subst (λ keys. IsLeast event_before keys c.index-slot.result c.in-Some.look.key) c.looks.invariant.seen least

pub returns-then-not-is_held_up-clause-found : goal.returns-then-not-is_held_up-clause-found
returns-then-not-is_held_up-clause-found g c =
    let plans = c.args.sched.now in
    let of_slots = subst (AreOfSlots (operations plans)) (sym c.looks.invariant.seen) c.requires.of_slots in
    let is_slot : slice_get (operations plans) c.index-slot.result ≡ Some c.in-Some.look.key.op = c.index-slot.ensures.index ∙ ap Some c.id.ensures in
    found_slot c.looks.ahead c.looks.waiting c.looks.rows c.looks.stands c.looks.invariant.kept c.in-Some.look.key c.in-Some.look.is_ahead c.in-Some.ensures.first plans of_slots c.index-slot.result is_slot

pub begin_to_wait-requires-clause-sole : goal.begin_to_wait-requires-clause-sole
begin_to_wait-requires-clause-sole g c =
    let plans = c.args.sched.now in
    let of_slots = subst (AreOfSlots (operations plans)) (sym c.looks.invariant.seen) c.requires.of_slots in
    let is_slot : slice_get (operations plans) c.index-slot.result ≡ Some c.in-Some.look.key.op = c.index-slot.ensures.index ∙ ap Some c.id.ensures in
    sole_ahead c.looks.ahead c.looks.waiting c.looks.rows c.looks.stands c.looks.invariant.kept c.in-Some.look.key c.in-Some.look.is_ahead c.in-Some.ensures.first plans of_slots c.index-slot.result is_slot c.if-is_ahead.true

pub begin_to_wait-requires-clause-key : goal.begin_to_wait-requires-clause-key
begin_to_wait-requires-clause-key g c =
    let plans = c.args.sched.now in
    let of_slots = subst (AreOfSlots (operations plans)) (sym c.looks.invariant.seen) c.requires.of_slots in
    let is_slot : slice_get (operations plans) c.index-slot.result ≡ Some c.in-Some.look.key.op = c.index-slot.ensures.index ∙ ap Some c.id.ensures in
    ahead_slot c.looks.ahead c.looks.waiting c.looks.rows c.looks.stands c.looks.invariant.kept c.in-Some.look.key c.in-Some.look.is_ahead c.in-Some.ensures.first plans of_slots c.index-slot.result is_slot c.if-is_ahead.true

pub begin_to_wait-requires-clause-times : goal.begin_to_wait-requires-clause-times
begin_to_wait-requires-clause-times g c =
    let plans = c.args.sched.now in
    let of_slots = subst (AreOfSlots (operations plans)) (sym c.looks.invariant.seen) c.requires.of_slots in
    let is_slot : slice_get (operations plans) c.index-slot.result ≡ Some c.in-Some.look.key.op = c.index-slot.ensures.index ∙ ap Some c.id.ensures in
    let within = slot_within c.looks.ahead c.looks.waiting c.looks.rows c.looks.stands c.looks.invariant.kept c.in-Some.look.key c.in-Some.look.is_ahead c.in-Some.ensures.first plans of_slots c.index-slot.result is_slot in
    times_known_in_loop c.args.ahead.now c.args.waiting.now c.args.rows.now c.args.stands.now c.args.steps.now c.args.moves.now c.looks.ahead c.looks.waiting c.looks.rows c.looks.stands c.looks.steps c.looks.moves c.looks.invariant c.args.times.now c.requires.times c.index-slot.result within

pub looks-smaller-then-is_ahead : goal.looks-smaller-then-is_ahead
looks-smaller-then-is_ahead g c =
    waited_less c.args.ahead.now c.args.waiting.now c.args.rows.now c.args.stands.now c.args.steps.now c.args.moves.now c.looks.ahead c.looks.waiting c.looks.rows c.looks.stands c.looks.steps c.looks.moves c.looks.invariant c.begin_to_wait.new.ahead c.begin_to_wait.new.waiting c.begin_to_wait.new.rows c.begin_to_wait.new.stands c.is_held_up.new.steps c.begin_to_wait.new.steps c.begin_to_wait.ensures.kept c.begin_to_wait.ensures.seen c.begin_to_wait.ensures.groups c.begin_to_wait.ensures.pairs c.begin_to_wait.ensures.turned c.begin_to_wait.ensures.free c.begin_to_wait.ensures.fewer (omega (arith, c.first.ensures.counted, c.is_held_up.ensures.counted)) c.begin_to_wait.ensures.counted

pub looks-preserved-then-is_ahead : goal.looks-preserved-then-is_ahead
looks-preserved-then-is_ahead g c =
    waited c.args.ahead.now c.args.waiting.now c.args.rows.now c.args.stands.now c.args.steps.now c.args.moves.now c.looks.ahead c.looks.waiting c.looks.rows c.looks.stands c.looks.steps c.looks.moves c.looks.invariant c.begin_to_wait.new.ahead c.begin_to_wait.new.waiting c.begin_to_wait.new.rows c.begin_to_wait.new.stands c.is_held_up.new.steps c.begin_to_wait.new.steps c.begin_to_wait.ensures.kept c.begin_to_wait.ensures.seen c.begin_to_wait.ensures.groups c.begin_to_wait.ensures.pairs c.begin_to_wait.ensures.turned c.begin_to_wait.ensures.free c.begin_to_wait.ensures.fewer (omega (arith, c.first.ensures.counted, c.is_held_up.ensures.counted)) c.begin_to_wait.ensures.counted

pub group-station-requires : goal.group-station-requires
group-station-requires g c =
    let plans = c.args.sched.now in
    let of_slots = subst (AreOfSlots (operations plans)) (sym c.looks.invariant.seen) c.requires.of_slots in
    let is_slot : slice_get (operations plans) c.index-slot.result ≡ Some c.in-Some.look.key.op = c.index-slot.ensures.index ∙ ap Some c.id.ensures in
    let within = slot_within c.looks.ahead c.looks.waiting c.looks.rows c.looks.stands c.looks.invariant.kept c.in-Some.look.key c.in-Some.look.is_ahead c.in-Some.ensures.first plans of_slots c.index-slot.result is_slot in
    omega (arith, within, c.looks.invariant.kept.mapped.grouped)

pub turn-requires-clause-has : goal.turn-requires-clause-has
turn-requires-clause-has g c =
    let plans = c.args.sched.now in
    let of_slots = subst (AreOfSlots (operations plans)) (sym c.looks.invariant.seen) c.requires.of_slots in
    let is_slot : slice_get (operations plans) c.index-slot.result ≡ Some c.in-Some.look.key.op = c.index-slot.ensures.index ∙ ap Some c.id.ensures in
    row_key c.looks.ahead c.looks.waiting c.looks.rows c.looks.stands c.looks.invariant.kept c.in-Some.look.key c.in-Some.look.is_ahead c.in-Some.ensures.first plans of_slots c.index-slot.result is_slot c.group-station.result c.group-station.ensures c.if-is_ahead.false ∙ ap Some (sym c.at.ensures)

pub turn-requires-clause-times : goal.turn-requires-clause-times
turn-requires-clause-times g c =
    let plans = c.args.sched.now in
    let of_slots = subst (AreOfSlots (operations plans)) (sym c.looks.invariant.seen) c.requires.of_slots in
    let is_slot : slice_get (operations plans) c.index-slot.result ≡ Some c.in-Some.look.key.op = c.index-slot.ensures.index ∙ ap Some c.id.ensures in
    let within = slot_within c.looks.ahead c.looks.waiting c.looks.rows c.looks.stands c.looks.invariant.kept c.in-Some.look.key c.in-Some.look.is_ahead c.in-Some.ensures.first plans of_slots c.index-slot.result is_slot in
    let same = pair_of_station c.looks.rows.pairs c.looks.waiting.groups c.index-slot.result c.group-station.result c.group-station.ensures in
    subst (AreTimesOf c.args.times.now c.looks.rows.free) same (times_known_in_loop c.args.ahead.now c.args.waiting.now c.args.rows.now c.args.stands.now c.args.steps.now c.args.moves.now c.looks.ahead c.looks.waiting c.looks.rows c.looks.stands c.looks.steps c.looks.moves c.looks.invariant c.args.times.now c.requires.times c.index-slot.result within)

pub looks-smaller : goal.looks-smaller
looks-smaller g c =
    let plans = c.args.sched.now in
    let same = get_or_from_slice_get c.looks.waiting.groups c.index-slot.result c.group-station.result 0 c.group-station.ensures in
    let held = subst (λ station. c.in-Some.look.key.time < both_free c.looks.rows.free (pair_at c.looks.rows.pairs station)) same (c.is_held_up.ensures.held_up c.if-not-is_held_up.false).1 in
    let of_slots = subst (AreOfSlots (operations plans)) (sym c.looks.invariant.seen) c.requires.of_slots in
    let is_slot : slice_get (operations plans) c.index-slot.result ≡ Some c.in-Some.look.key.op = c.index-slot.ensures.index ∙ ap Some c.id.ensures in
    let late = turn_late c.looks.ahead c.looks.waiting c.looks.rows c.looks.stands c.looks.invariant.kept c.in-Some.look.key c.in-Some.look.is_ahead c.in-Some.ensures.first plans of_slots c.index-slot.result is_slot c.group-station.result c.group-station.ensures c.if-is_ahead.false held in
    let exists = c.looks.invariant.kept.mapped.within c.index-slot.result c.group-station.result c.group-station.ensures in
    over_less c.args.ahead.now c.args.waiting.now c.args.rows.now c.args.stands.now c.args.steps.now c.args.moves.now c.looks.ahead c.looks.waiting c.looks.rows c.looks.stands c.looks.steps c.looks.moves c.looks.invariant c.group-station.result exists late c.turn.new.self c.turn.ensures.turned c.is_held_up.new.steps c.turn.new.steps c.tick.new.self (omega (arith, c.first.ensures.counted, c.is_held_up.ensures.counted)) c.turn.ensures.counted c.tick.ensures

pub looks-preserved : goal.looks-preserved
looks-preserved g c =
    let plans = c.args.sched.now in
    let same = get_or_from_slice_get c.looks.waiting.groups c.index-slot.result c.group-station.result 0 c.group-station.ensures in
    let held = subst (λ station. c.in-Some.look.key.time < both_free c.looks.rows.free (pair_at c.looks.rows.pairs station)) same (c.is_held_up.ensures.held_up c.if-not-is_held_up.false).1 in
    let of_slots = subst (AreOfSlots (operations plans)) (sym c.looks.invariant.seen) c.requires.of_slots in
    let is_slot : slice_get (operations plans) c.index-slot.result ≡ Some c.in-Some.look.key.op = c.index-slot.ensures.index ∙ ap Some c.id.ensures in
    let late = turn_late c.looks.ahead c.looks.waiting c.looks.rows c.looks.stands c.looks.invariant.kept c.in-Some.look.key c.in-Some.look.is_ahead c.in-Some.ensures.first plans of_slots c.index-slot.result is_slot c.group-station.result c.group-station.ensures c.if-is_ahead.false held in
    let exists = c.looks.invariant.kept.mapped.within c.index-slot.result c.group-station.result c.group-station.ensures in
    went_over c.args.ahead.now c.args.waiting.now c.args.rows.now c.args.stands.now c.args.steps.now c.args.moves.now c.looks.ahead c.looks.waiting c.looks.rows c.looks.stands c.looks.steps c.looks.moves c.looks.invariant c.group-station.result exists late c.turn.new.self c.turn.ensures.turned c.is_held_up.new.steps c.turn.new.steps c.tick.new.self (omega (arith, c.first.ensures.counted, c.is_held_up.ensures.counted)) c.turn.ensures.counted c.tick.ensures

pub returns-clause-none : goal.returns-clause-none
returns-clause-none g c =
    let both = c.first.ensures.none.0 (ap is_some c.in_default.is) in
    (λ e. subst IsEmptyMap c.looks.invariant.seen (seen_empty_if_both_empty c.looks.ahead c.looks.waiting c.looks.rows c.looks.stands c.looks.invariant.kept both.0 both.1), λ e. refl)

pub begin_to_wait-requires-clause-late : goal.begin_to_wait-requires-clause-late
begin_to_wait-requires-clause-late g c = λ station e.
    let same = get_or_from_slice_get c.looks.waiting.groups c.index-slot.result station 0 e in
    let held = subst (λ s. c.in-Some.look.key.time < both_free c.looks.rows.free (pair_at c.looks.rows.pairs s)) same (c.is_held_up.ensures.held_up c.if-not-is_held_up.false).1 in
    omega (arith, held)

pub turn-requires-clause-exists : goal.turn-requires-clause-exists
turn-requires-clause-exists g c =
    c.looks.invariant.kept.mapped.within c.index-slot.result c.group-station.result c.group-station.ensures

pub returns-then-not-is_held_up-clause-counted : goal.returns-then-not-is_held_up-clause-counted
returns-then-not-is_held_up-clause-counted g c = λ k l.
    let was = c.looks.invariant.counted k l in omega (arith, was, c.first.ensures.counted, c.is_held_up.ensures.counted)

pub returns-clause-counted : goal.returns-clause-counted
returns-clause-counted g c = λ k l.
    let was = c.looks.invariant.counted k l in omega (arith, was, c.first.ensures.counted)
