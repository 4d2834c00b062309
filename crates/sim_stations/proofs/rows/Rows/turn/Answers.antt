use Rattle.std.proofs.Common.{◌≡◌, ◌<◌, ◌≤◌, ◌^◌, Some, None, not, length, set, slice_get, sym, ap, ◌∙◌, subst, arith}
use Rattle.std.proofs.lemmas.List.{length-set}
use Rattle.goal_graph.specs.declared.action.Timed.{Timed}
use Rattle.sim_queue.specs.Map.{key_at}
use Rattle.sim_queue.specs.Groups.{Grouped}
use Rattle.sim_stations.specs.Stations.{at_time, pair_at, AreTimesOf}
use Rattle.sim_stations.specs.Rows.{Rowed, place_in, turned_at, seen, AreBothTold, IsInRows}
use Rattle.sim_stations.proofs.Heads.{at_own_time_is_itself}
use Rattle.sim_stations.proofs.InRows.{times_for_pair_read, times_known, times_known_are_same, both_heads_updated_by_same_times, with_key, key_zero, pair_read, turned_read, turned_zero, turned_inside, turned_heads, turned_seen}
use Rattle.sim_stations.proofs.rows.Rows.turn.Given.{Over}
use Rattle.sim_stations.proofs.rows.Rows.turn.Goals.{After-tell_both-arg-3-1, After-tell_both}
use Rattle.sim_stations.proofs.rows.Rows.turn.Goals as goal

-- before the heads are updated
module _ (g : Over) (c : After-tell_both-arg-3-1 g) where
  within_before : c.args.station < length c.self.inside.pairs.items
  within_before = omega (arith, c.requires.exists, ap (λ (q : Rowed). length q.pairs) c.self.view_is)

  at_before : slice_get c.self.inside.pairs.items c.args.station ≡ Some c.index-pair.result.now
  at_before = pair_read c.self.inside.pairs.items c.args.station c.index-pair.result.now within_before c.index-pair.ensures

  times_before : AreTimesOf c.args.times.now c.self.inside.free.times c.index-pair.result.now
  times_before =
      let q = c.self.inside in
      times_for_pair_read c.args.times.now q.free.times q.pairs.items c.args.station c.index-pair.result.now at_before (subst (λ (r : Rowed). AreTimesOf c.args.times.now r.free (pair_at r.pairs c.args.station)) (sym c.self.view_is) c.requires.times)

  turned_before : c.index-turned.result.now ≡ turned_at c.self.inside.turned.items c.args.station
  turned_before =
      turned_read c.self.inside.turned.items c.args.station c.index-turned.result.now (omega (arith, within_before, c.self.invariant.0.both)) c.index-turned.ensures

  mid_before : c.drop_slot.new.self ≡ with_key c.self.inside.rows (place_in c.args.station (turned_at c.self.inside.turned.items c.args.station)) None
  mid_before =
      c.drop_slot.ensures.dropped ∙ ap (λ i. with_key c.self.inside.rows i None) (c.place_in.ensures ∙ ap (place_in c.args.station) turned_before)

  has_before : key_at (seen c.self.inside.turned.items c.self.inside.rows.keys) c.args.station ≡ Some c.args.key
  has_before = ap (λ (q : Rowed). key_at q.keys c.args.station) c.self.view_is ∙ c.requires.has

  zero_before : c.args.key.time ≡ 0
  zero_before =
      let q = c.self.inside in
      key_zero q.rows q.heads q.pairs.items q.turned.items q.free.times c.self.invariant.0 c.self.invariant.1 c.args.station c.index-pair.result.now at_before c.args.key has_before

  new_before : c.put.new.self ≡ with_key c.drop_slot.new.self (place_in c.args.station (not (turned_at c.self.inside.turned.items c.args.station))) (Some c.args.key)
  new_before =
      c.put.ensures.put ∙ ap (λ i. with_key c.drop_slot.new.self i (Some (at_time 0 c.args.key))) (c.place_in-2.ensures ∙ ap (λ b. place_in c.args.station (not b)) turned_before) ∙ ap (λ k. with_key c.drop_slot.new.self (place_in c.args.station (not (turned_at c.self.inside.turned.items c.args.station))) (Some k)) (at_own_time_is_itself c.args.key 0 zero_before)

-- and after it
module _ (g : Over) (c : After-tell_both g) where
  station_of_turn_exists : c.args.station < length c.self.inside.pairs.items
  station_of_turn_exists = omega (arith, c.requires.exists, ap (λ (q : Rowed). length q.pairs) c.self.view_is)

  at : slice_get c.self.inside.pairs.items c.args.station ≡ Some c.index-pair.result.now
  at = pair_read c.self.inside.pairs.items c.args.station c.index-pair.result.now station_of_turn_exists c.index-pair.ensures

  times : AreTimesOf c.args.times.now c.self.inside.free.times c.index-pair.result.now
  times =
      let q = c.self.inside in
      times_for_pair_read c.args.times.now q.free.times q.pairs.items c.args.station c.index-pair.result.now at (subst (λ (r : Rowed). AreTimesOf c.args.times.now r.free (pair_at r.pairs c.args.station)) (sym c.self.view_is) c.requires.times)

  turned : c.index-turned.result.now ≡ turned_at c.self.inside.turned.items c.args.station
  turned =
      turned_read c.self.inside.turned.items c.args.station c.index-turned.result.now (omega (arith, station_of_turn_exists, c.self.invariant.0.both)) c.index-turned.ensures

  mid : c.drop_slot.new.self ≡ with_key c.self.inside.rows (place_in c.args.station (turned_at c.self.inside.turned.items c.args.station)) None
  mid =
      c.drop_slot.ensures.dropped ∙ ap (λ i. with_key c.self.inside.rows i None) (c.place_in.ensures ∙ ap (place_in c.args.station) turned)

  has : key_at (seen c.self.inside.turned.items c.self.inside.rows.keys) c.args.station ≡ Some c.args.key
  has = ap (λ (q : Rowed). key_at q.keys c.args.station) c.self.view_is ∙ c.requires.has

  zero : c.args.key.time ≡ 0
  zero =
      let q = c.self.inside in
      key_zero q.rows q.heads q.pairs.items q.turned.items q.free.times c.self.invariant.0 c.self.invariant.1 c.args.station c.index-pair.result.now at c.args.key has

  new : c.put.new.self ≡ with_key c.drop_slot.new.self (place_in c.args.station (not (turned_at c.self.inside.turned.items c.args.station))) (Some c.args.key)
  new =
      c.put.ensures.put ∙ ap (λ i. with_key c.drop_slot.new.self i (Some (at_time 0 c.args.key))) (c.place_in-2.ensures ∙ ap (λ b. place_in c.args.station (not b)) turned) ∙ ap (λ k. with_key c.drop_slot.new.self (place_in c.args.station (not (turned_at c.self.inside.turned.items c.args.station))) (Some k)) (at_own_time_is_itself c.args.key 0 zero)

  told : AreBothTold c.put.new.self c.self.inside.free.times c.self.inside.heads c.tell_both.new.heads c.index-pair.result.now
  told =
      let q = c.self.inside in
      let p = c.index-pair.result.now in
      both_heads_updated_by_same_times c.put.new.self c.args.times.now q.free.times q.heads c.tell_both.new.heads p (times_known_are_same c.args.times.now q.free.times p times) c.tell_both.ensures.told

  switch_of_read_is_switch_of_turned_at : set c.self.inside.turned.items c.args.station (not c.index-turned.result.now) ≡ set c.self.inside.turned.items c.args.station (not (turned_at c.self.inside.turned.items c.args.station))
  switch_of_read_is_switch_of_turned_at = ap (λ b. set c.self.inside.turned.items c.args.station (not b)) turned

pub tell_both-requires-clause-cpu : goal.tell_both-requires-clause-cpu
tell_both-requires-clause-cpu g c =
    omega (arith, c.self.invariant.1.each, (c.self.invariant.0.exist c.args.station c.index-pair.result.now (at_before g c)).0)

pub tell_both-requires-clause-side : goal.tell_both-requires-clause-side
tell_both-requires-clause-side g c =
    omega (arith, c.self.invariant.1.each, (c.self.invariant.0.exist c.args.station c.index-pair.result.now (at_before g c)).1)

pub tell_both-requires-clause-known_cpu : goal.tell_both-requires-clause-known_cpu
tell_both-requires-clause-known_cpu g c =
    (times_known c.args.times.now c.self.inside.free.times c.index-pair.result.now (times_before g c)).has_cpu

pub tell_both-requires-clause-known_side : goal.tell_both-requires-clause-known_side
tell_both-requires-clause-known_side g c =
    (times_known c.args.times.now c.self.inside.free.times c.index-pair.result.now (times_before g c)).has_side

pub tell_both-requires-clause-at_zero : goal.tell_both-requires-clause-at_zero
tell_both-requires-clause-at_zero g c =
    let q = c.self.inside in
    turned_zero q.rows q.heads q.pairs.items q.turned.items q.free.times c.self.invariant.0 c.self.invariant.1 c.args.station c.index-pair.result.now (at_before g c) c.args.key (has_before g c) c.drop_slot.new.self c.put.new.self (mid_before g c) (new_before g c)

pub invariant_of-self : goal.invariant_of-self
invariant_of-self g c =
    let q = c.self.inside in
    let inside = turned_inside q.rows q.heads q.pairs.items q.turned.items q.free.times c.self.invariant.0 c.self.invariant.1 c.args.station c.index-pair.result.now (at g c) c.args.key (has g c) c.drop_slot.new.self c.put.new.self (mid g c) (new g c) in
    (subst (λ bs. IsInRows c.put.new.self q.pairs.items bs q.free.times) (sym (switch_of_read_is_switch_of_turned_at g c)) inside, turned_heads q.rows q.heads q.pairs.items q.turned.items q.free.times c.self.invariant.0 c.self.invariant.1 c.args.station c.index-pair.result.now (at g c) c.args.key (has g c) c.drop_slot.new.self c.put.new.self (mid g c) (new g c) c.tell_both.new.heads (told g c))

pub returns-clause-turned : goal.returns-clause-turned
returns-clause-turned g c =
    let q = c.self.inside in
    let keys = ap (λ bs. seen bs c.put.new.self.keys) (switch_of_read_is_switch_of_turned_at g c) ∙ turned_seen q.rows q.heads q.pairs.items q.turned.items q.free.times c.self.invariant.0 c.self.invariant.1 c.args.station c.index-pair.result.now (at g c) c.args.key (has g c) c.drop_slot.new.self c.put.new.self (mid g c) (new g c) in
    (λ i. record { keys = keys i; pairs = q.pairs.items; turned = switch_of_read_is_switch_of_turned_at g c i; free = q.free.times }) ∙ ap (λ (r : Rowed). record { keys = r.keys; pairs = r.pairs; turned = set r.turned c.args.station (not (turned_at r.turned c.args.station)); free = r.free }) c.self.view_is

pub returns-clause-counted : goal.returns-clause-counted
returns-clause-counted g c =
    λ k l m.
    let q = c.self.inside in
    let few : length q.rows.keys ≤ 2 ^ k = omega (arith, l, c.self.invariant.0.each, ap (λ (r : Rowed). length r.pairs) c.self.view_is) in
    let dropped = c.drop_slot.ensures.counted k few in
    let put = c.put.ensures.counted k (omega (arith, few, ap (λ (r : Grouped Timed). length r.keys) (mid g c), length-set q.rows.keys (place_in c.args.station (turned_at q.turned.items c.args.station)) None)) in
    let told = c.tell_both.ensures.counted k (omega (arith, m, c.self.invariant.1.each, ap (λ (r : Rowed). length r.free) c.self.view_is)) in
    omega (arith, dropped, put, told)
