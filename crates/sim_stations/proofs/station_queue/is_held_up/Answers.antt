use Rattle.std.proofs.Common.{◌≡◌, true, sym, ap, ◌∙◌, subst, arith}
use Rattle.std.proofs.lemmas.Bool.{ltb-true, ltb-false}
use Rattle.std.proofs.lemmas.Option.{get_or_from_slice_get}
use Rattle.sim_stations.specs.Stations.{holds_cpu, both_free, pair_at, AreTimesOf}
use Rattle.sim_stations.proofs.Times.{due_event_keeps_its_time, pair_of_station}
use Rattle.sim_stations.proofs.station_queue.is_held_up.Goals as goal

pub free-free-requires-clause-times : goal.free-free-requires-clause-times
free-free-requires-clause-times g c =
    subst (AreTimesOf c.args.times.now c.args.rows.now.free) (pair_of_station c.args.rows.now.pairs c.args.waiting.now.groups c.args.slot c.group.result c.group.ensures) c.requires.times

pub returns-clause-held_up : goal.returns-clause-held_up
returns-clause-held_up g c = λ e.
    let waits : holds_cpu c.args.key.class ≡ true = ap holds_cpu (sym c.class.ensures) ∙ sym c.holds_cpu.ensures ∙ c.if-not-holds_cpu.false in
    let same = get_or_from_slice_get c.args.waiting.now.groups c.args.slot c.group.result 0 c.group.ensures in
    let free = c.free-free.ensures.free ∙ ap (λ s. both_free c.args.rows.now.free (pair_at c.args.rows.now.pairs s)) (sym same) in
    (waits, omega (arith, free, c.time.ensures, ltb-true c.time.result c.free-free.result e))

pub returns-clause-due : goal.returns-clause-due
returns-clause-due g c = λ e.
    let waits : holds_cpu c.args.key.class ≡ true = ap holds_cpu (sym c.class.ensures) ∙ sym c.holds_cpu.ensures ∙ c.if-not-holds_cpu.false in
    let same = get_or_from_slice_get c.args.waiting.now.groups c.args.slot c.group.result 0 c.group.ensures in
    let free = c.free-free.ensures.free ∙ ap (λ s. both_free c.args.rows.now.free (pair_at c.args.rows.now.pairs s)) (sym same) in
    due_event_keeps_its_time c.args.rows.now.free _ c.args.key waits (omega (arith, free, c.time.ensures, ltb-false c.time.result c.free-free.result e))
