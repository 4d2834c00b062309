use Rattle.std.proofs.Common.{◌+◌, Some, length, set, sym, ap, ◌∙◌, refl, subst, arith}
use Rattle.goal_graph.specs.declared.action.Timed.{Timed}
use Rattle.sim_queue.proofs.ForCallers.{pow_next_is_double}
use Rattle.sim_stations.specs.Stations.{at_time, AreTimesOf}
use Rattle.sim_stations.specs.Rows.{Rowed}
use Rattle.sim_stations.specs.Kept.{AreShown, IsBeforeAll, HasOneBefore}
use Rattle.sim_stations.proofs.Shown.{shown_after_new_head, shown_with_kept_least, first_is_new_least, later_keeps_least}
use Rattle.sim_stations.proofs.Times.{pair_of_station}
use Rattle.sim_stations.proofs.station_queue.join.Goals as goal

pub tell-requires-clause-times : goal.tell-requires-clause-times
tell-requires-clause-times g c =
    subst (AreTimesOf c.args.times.now c.args.rows.now.free) (pair_of_station c.args.rows.now.pairs c.args.waiting.now.groups c.args.slot c.group-station.result c.group-station.ensures) c.requires.times

pub returns-then-is_first-clause-shown : goal.returns-then-is_first-clause-shown
returns-then-is_first-clause-shown g c =
    let station = c.group-station.result in
    let key = at_time 0 c.args.key in
    let exists = c.requires.within station c.group-station.ensures in
    let before = subst (IsBeforeAll c.args.waiting.now station) c.at-key.ensures (c.is_first.ensures.first c.if-is_first.true) in
    let put = c.put.ensures.put ∙ ap (λ (k : Timed). record { keys = set c.args.waiting.now.keys c.args.slot (Some (at_time 0 k)); groups = c.args.waiting.now.groups }) c.at-key.ensures in
    let head = first_is_new_least c.args.waiting.now c.args.slot station c.group-station.ensures c.requires.slot_in (Some key) c.put.new.self put key refl refl c.requires.free before in
    let shown = shown_after_new_head c.args.waiting.now c.args.slot station c.group-station.ensures c.requires.slot_in (Some key) c.put.new.self put c.args.rows.now.keys (length c.args.rows.now.pairs) (omega (arith, exists, c.requires.keyed)) c.requires.shown (Some key) head in
    let told = c.tell.ensures.told ∙ ap (λ (k : Timed). record { keys = set c.args.rows.now.keys station (Some k); pairs = c.args.rows.now.pairs; turned = c.args.rows.now.turned; free = c.args.rows.now.free }) c.at-key.ensures in
    subst (λ (r : Rowed). AreShown c.put.new.self r.keys (length r.pairs)) (sym told) shown

pub returns-else-is_first-clause-shown : goal.returns-else-is_first-clause-shown
returns-else-is_first-clause-shown g c =
    let station = c.group-station.result in
    let key = at_time 0 c.args.key in
    let exists = c.requires.within station c.group-station.ensures in
    let later = subst (HasOneBefore c.args.waiting.now station) c.at-key.ensures (c.is_first.ensures.not_first c.if-is_first.false) in
    let put = c.put-else-is_first.ensures.put ∙ ap (λ (k : Timed). record { keys = set c.args.waiting.now.keys c.args.slot (Some (at_time 0 k)); groups = c.args.waiting.now.groups }) c.at-key.ensures in
    let head = later_keeps_least c.args.waiting.now c.args.slot station c.group-station.ensures c.requires.slot_in (Some key) c.put-else-is_first.new.self put key refl refl c.requires.free later _ (c.requires.shown station exists) in
    shown_with_kept_least c.args.waiting.now c.args.slot station c.group-station.ensures c.requires.slot_in (Some key) c.put-else-is_first.new.self put c.args.rows.now.keys (length c.args.rows.now.pairs) c.requires.shown head

pub returns-then-is_first-clause-counted : goal.returns-then-is_first-clause-counted
returns-then-is_first-clause-counted g c =
    λ k l m n.
    let put = c.put.ensures.counted k l in
    let told = c.tell.ensures.counted (k + 1) (omega (arith, m, pow_next_is_double k)) n in
    omega (arith, c.is_first.ensures.counted, put, told)

pub returns-else-is_first-clause-counted : goal.returns-else-is_first-clause-counted
returns-else-is_first-clause-counted g c =
    λ k l m n.
    let put = c.put-else-is_first.ensures.counted k l in
    omega (arith, c.is_first.ensures.counted, put)
