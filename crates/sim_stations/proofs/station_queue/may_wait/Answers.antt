use Rattle.std.proofs.Common.{sym, ap, ◌∙◌, subst, arith}
use Rattle.std.proofs.lemmas.Option.{get_or_from_slice_get}
use Rattle.sim_stations.specs.Stations.{both_free, pair_at, AreTimesOf}
use Rattle.sim_stations.proofs.Times.{pair_of_station}
use Rattle.sim_stations.proofs.station_queue.may_wait.Goals as goal

pub free-free-requires-clause-times : goal.free-free-requires-clause-times
free-free-requires-clause-times g c =
    subst (AreTimesOf c.args.times.now c.args.rows.now.free) (pair_of_station c.args.rows.now.pairs c.args.waiting.now.groups c.args.slot c.group-station.result c.group-station.ensures) c.requires.times

pub returns-then-time-free-clause-late : goal.returns-then-time-free-clause-late
returns-then-time-free-clause-late g c = λ e.
    let same = get_or_from_slice_get c.args.waiting.now.groups c.args.slot c.group-station.result 0 c.group-station.ensures in
    let free = c.free-free.ensures.free ∙ ap (λ s. both_free c.args.rows.now.free (pair_at c.args.rows.now.pairs s)) (sym same) in
    omega (arith, free, c.time.ensures, c.if-time-free.true)

pub returns-then-free-eq0-clause-late : goal.returns-then-free-eq0-clause-late
returns-then-free-eq0-clause-late g c = λ e.
    let same = get_or_from_slice_get c.args.waiting.now.groups c.args.slot c.group-station.result 0 c.group-station.ensures in
    let free = c.free-free.ensures.free ∙ ap (λ s. both_free c.args.rows.now.free (pair_at c.args.rows.now.pairs s)) (sym same) in
    omega (arith, free)

pub returns-else-free-eq0-clause-late : goal.returns-else-free-eq0-clause-late
returns-else-free-eq0-clause-late g c = λ e.
    let same = get_or_from_slice_get c.args.waiting.now.groups c.args.slot c.group-station.result 0 c.group-station.ensures in
    let free = c.free-free.ensures.free ∙ ap (λ s. both_free c.args.rows.now.free (pair_at c.args.rows.now.pairs s)) (sym same) in
    omega (arith, free)
