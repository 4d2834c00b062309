use Rattle.std.proofs.Common.{◌≡◌, ◌+◌, slice_index, set, sym, ◌∙◌, subst, arith}
use Rattle.sim_queue.proofs.ForCallers.{pow_next_is_double}
use Rattle.sim_resources.specs.declared.pair.Pair.{Pair}
use Rattle.sim_stations.specs.Stations.{pair_at, held, AreKnown}
use Rattle.sim_stations.proofs.Times.{pair_of_station}
use Rattle.sim_stations.proofs.Slots.{not_ahead}
use Rattle.sim_stations.proofs.Changed.{found_ahead, found_waiting, left_zero, left_departed, ahead_departed}
use Rattle.sim_stations.proofs.station_queue.depart.Goals as goal

pub leave-requires-clause-known : goal.leave-requires-clause-known
leave-requires-clause-known g c =
    subst (AreKnown c.args.times.now) (pair_of_station c.args.rows.now.pairs c.args.waiting.now.groups c.args.slot c.group-station.result c.group-station.ensures) c.requires.known

pub leave-requires-clause-at_zero : goal.leave-requires-clause-at_zero
leave-requires-clause-at_zero g c =
    left_zero c.args.ahead.now c.args.waiting.now c.args.rows.now c.args.stands.now c.requires.kept c.args.slot c.group-station.result c.group-station.ensures c.requires.slot_in c.take.new.self c.take.ensures.taken c.least_of-least.result c.least_of-least.ensures.none c.least_of-least.ensures.least

pub hold-requires-clause-known : goal.hold-requires-clause-known
hold-requires-clause-known g c =
    subst (AreKnown c.args.times.now) (pair_of_station c.args.rows.now.pairs c.args.waiting.now.groups c.args.slot c.group-station.result c.group-station.ensures) c.requires.known

pub take-requires : goal.take-requires
take-requires g c =
    found_waiting c.args.ahead.now c.args.waiting.now c.args.rows.now c.args.stands.now c.requires.kept c.args.slot c.requires.found (sym c.is_waiting.ensures ∙ c.if-is_waiting.true)

pub take-requires-else-is_waiting : goal.take-requires-else-is_waiting
take-requires-else-is_waiting g c =
    found_ahead c.args.ahead.now c.args.waiting.now c.args.rows.now c.args.stands.now c.requires.kept c.args.slot c.requires.found (sym c.is_waiting.ensures ∙ c.if-is_waiting.false)

pub returns-then-is_waiting-clause-departed : goal.returns-then-is_waiting-clause-departed
returns-then-is_waiting-clause-departed g c =
    let sole = found_waiting c.args.ahead.now c.args.waiting.now c.args.rows.now c.args.stands.now c.requires.kept c.args.slot c.requires.found (sym c.is_waiting.ensures ∙ c.if-is_waiting.true) in
    let idle = not_ahead c.args.ahead.now c.args.waiting.now c.args.rows.now.pairs c.requires.kept.mapped c.args.slot sole.key sole.has in
    let pair = pair_at c.args.rows.now.pairs (slice_index c.args.waiting.now.groups c.args.slot) in
    let cpu = slice_index c.args.times.now pair.cpu in
    let side = slice_index c.args.times.now pair.side in
    let same = pair_of_station c.args.rows.now.pairs c.args.waiting.now.groups c.args.slot c.group-station.result c.group-station.ensures in
    let held_now = subst (λ (p : Pair). c.leave.new.self ≡ record { keys = set c.args.rows.now.keys c.group-station.result c.least_of-least.result; pairs = c.args.rows.now.pairs; turned = c.args.rows.now.turned; free = held c.args.rows.now.free (pair_at c.args.rows.now.pairs c.group-station.result) (slice_index c.args.times.now p.cpu) (slice_index c.args.times.now p.side) }) (sym same) c.leave.ensures.held in
    left_departed c.args.ahead.now c.args.waiting.now c.args.rows.now c.args.stands.now c.requires.kept c.args.slot c.group-station.result c.group-station.ensures c.requires.slot_in c.take.new.self c.take.ensures.taken c.least_of-least.result c.least_of-least.ensures.none c.least_of-least.ensures.least c.leave.new.self cpu side c.requires.later idle held_now

pub returns-else-is_waiting-clause-departed : goal.returns-else-is_waiting-clause-departed
returns-else-is_waiting-clause-departed g c =
    let sole = found_ahead c.args.ahead.now c.args.waiting.now c.args.rows.now c.args.stands.now c.requires.kept c.args.slot c.requires.found (sym c.is_waiting.ensures ∙ c.if-is_waiting.false) in
    let pair = pair_at c.args.rows.now.pairs (slice_index c.args.waiting.now.groups c.args.slot) in
    let cpu = slice_index c.args.times.now pair.cpu in
    let side = slice_index c.args.times.now pair.side in
    let same = pair_of_station c.args.rows.now.pairs c.args.waiting.now.groups c.args.slot c.group-station.result c.group-station.ensures in
    let held_now = subst (λ (p : Pair). c.hold.new.self ≡ record { keys = c.args.rows.now.keys; pairs = c.args.rows.now.pairs; turned = c.args.rows.now.turned; free = held c.args.rows.now.free (pair_at c.args.rows.now.pairs c.group-station.result) (slice_index c.args.times.now p.cpu) (slice_index c.args.times.now p.side) }) (sym same) c.hold.ensures.held in
    ahead_departed c.args.ahead.now c.args.waiting.now c.args.rows.now c.args.stands.now c.requires.kept c.args.slot sole.key sole.has c.requires.slot_in c.take-else-is_waiting.new.self c.take-else-is_waiting.ensures.taken c.group-station.result c.group-station.ensures cpu side c.requires.later c.hold.new.self held_now

pub returns-then-is_waiting-clause-counted : goal.returns-then-is_waiting-clause-counted
returns-then-is_waiting-clause-counted g c =
    λ k l.
    let double = pow_next_is_double k in
    let taken = c.take.ensures.counted k l in
    let left = c.leave.ensures.counted (k + 1) (omega (arith, l, c.requires.kept.few_stations, double)) (omega (arith, l, c.requires.kept.few_resources, double)) in
    omega (arith, taken, left)

pub returns-else-is_waiting-clause-counted : goal.returns-else-is_waiting-clause-counted
returns-else-is_waiting-clause-counted g c =
    λ k l.
    let double = pow_next_is_double k in
    let taken = c.take-else-is_waiting.ensures.counted k (omega (arith, l, c.requires.kept.mapped.each)) in
    let left = c.hold.ensures.counted (k + 1) (omega (arith, l, c.requires.kept.few_resources, double)) in
    omega (arith, taken, left)
