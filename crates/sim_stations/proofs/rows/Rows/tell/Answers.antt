use Rattle.std.proofs.Common.{◌≡◌, ◌<◌, Some, length, set, slice_get, sym, ap, ◌∙◌, subst, arith}
use Rattle.sim_stations.specs.Stations.{pair_at, AreTimesOf}
use Rattle.sim_stations.specs.Rows.{Rowed, place_in, side_of, turned_at, IsTold}
use Rattle.sim_stations.proofs.InRows.{side_resource_exists, times_for_pair_read, times_known, resource_waited_at_is_known, times_known_are_same, head_updated_by_same_times, with_key, existing_key_is_at_zero, pair_read, turned_read, written_inside, written_heads, written_seen}
use Rattle.sim_stations.proofs.rows.Rows.tell.Given.{Over}
use Rattle.sim_stations.proofs.rows.Rows.tell.Goals.{After-tell}
use Rattle.sim_stations.proofs.rows.Rows.tell.Goals as goal

module _ (g : Over) (c : After-tell g) where
  station_of_tell_exists : c.args.station < length c.self.inside.pairs.items
  station_of_tell_exists = omega (arith, c.requires.exists, ap (λ (q : Rowed). length q.pairs) c.self.view_is)

  at : slice_get c.self.inside.pairs.items c.args.station ≡ Some c.index-pair.result.now
  at = pair_read c.self.inside.pairs.items c.args.station c.index-pair.result.now station_of_tell_exists c.index-pair.ensures

  turned : c.index-turned.result.now ≡ turned_at c.self.inside.turned.items c.args.station
  turned =
      turned_read c.self.inside.turned.items c.args.station c.index-turned.result.now (omega (arith, station_of_tell_exists, c.self.invariant.0.both)) c.index-turned.ensures

  is_new : c.write.new.rows ≡ with_key c.self.inside.rows (place_in c.args.station (turned_at c.self.inside.turned.items c.args.station)) c.args.key
  is_new =
      c.write.ensures.written ∙ ap (λ i. with_key c.self.inside.rows i c.args.key) (c.place_in.ensures ∙ ap (place_in c.args.station) turned)

  times : AreTimesOf c.args.times.now c.self.inside.free.times c.index-pair.result.now
  times =
      let q = c.self.inside in
      times_for_pair_read c.args.times.now q.free.times q.pairs.items c.args.station c.index-pair.result.now at (subst (λ (r : Rowed). AreTimesOf c.args.times.now r.free (pair_at r.pairs c.args.station)) (sym c.self.view_is) c.requires.times)

  told : IsTold c.write.new.rows c.self.inside.free.times c.self.inside.heads c.tell.new.heads (side_of c.index-pair.result.now (turned_at c.self.inside.turned.items c.args.station))
  told =
      let q = c.self.inside in
      let p = c.index-pair.result.now in
      head_updated_by_same_times c.write.new.rows c.args.times.now q.free.times q.heads c.tell.new.heads p (turned_at q.turned.items c.args.station) (times_known_are_same c.args.times.now q.free.times p times) (subst (IsTold c.write.new.rows c.args.times.now q.heads c.tell.new.heads) (c.side_of-resource.ensures ∙ ap (side_of p) turned) c.tell.ensures.told)

pub tell-requires-clause-exists : goal.tell-requires-clause-exists
tell-requires-clause-exists g c =
    let q = c.self.inside in
    let p = c.index-pair.result.now in
    let there : c.args.station < length q.pairs.items = omega (arith, c.requires.exists, ap (λ (r : Rowed). length r.pairs) c.self.view_is) in
    let side = side_resource_exists q.rows q.heads q.pairs.items q.turned.items q.free.times c.self.invariant.0 c.self.invariant.1 c.args.station p c.index-turned.result.now (pair_read q.pairs.items c.args.station p there c.index-pair.ensures) in
    omega (arith, side, c.side_of-resource.ensures, c.self.invariant.1.each)

pub tell-requires-clause-known : goal.tell-requires-clause-known
tell-requires-clause-known g c =
    let q = c.self.inside in
    let p = c.index-pair.result.now in
    let there : c.args.station < length q.pairs.items = omega (arith, c.requires.exists, ap (λ (r : Rowed). length r.pairs) c.self.view_is) in
    let at = pair_read q.pairs.items c.args.station p there c.index-pair.ensures in
    let times : AreTimesOf c.args.times.now q.free.times p = times_for_pair_read c.args.times.now q.free.times q.pairs.items c.args.station p at (subst (λ (r : Rowed). AreTimesOf c.args.times.now r.free (pair_at r.pairs c.args.station)) (sym c.self.view_is) c.requires.times) in
    omega (arith, resource_waited_at_is_known c.args.times.now p c.index-turned.result.now (times_known c.args.times.now q.free.times p times), c.side_of-resource.ensures)

pub invariant_of-self : goal.invariant_of-self
invariant_of-self g c =
    let q = c.self.inside in
    let zero = existing_key_is_at_zero c.args.key c.requires.at_zero in
    (written_inside q.rows q.heads q.pairs.items q.turned.items q.free.times c.self.invariant.0 c.self.invariant.1 c.args.station c.index-pair.result.now (at g c) c.args.key zero c.write.new.rows (is_new g c) q.free.times (omega arith), written_heads q.rows q.heads q.pairs.items q.turned.items q.free.times c.self.invariant.0 c.self.invariant.1 c.args.station c.index-pair.result.now (at g c) c.args.key zero c.write.new.rows (is_new g c) c.tell.new.heads (told g c))

pub returns-clause-told : goal.returns-clause-told
returns-clause-told g c =
    let q = c.self.inside in
    let zero = existing_key_is_at_zero c.args.key c.requires.at_zero in
    let keys = written_seen q.rows q.heads q.pairs.items q.turned.items q.free.times c.self.invariant.0 c.self.invariant.1 c.args.station c.index-pair.result.now (at g c) c.args.key zero c.write.new.rows (is_new g c) in
    (λ i. record { keys = keys i; pairs = q.pairs.items; turned = q.turned.items; free = q.free.times }) ∙ ap (λ (r : Rowed). record { keys = set r.keys c.args.station c.args.key; pairs = r.pairs; turned = r.turned; free = r.free }) c.self.view_is

pub returns-clause-counted : goal.returns-clause-counted
returns-clause-counted g c =
    λ k l m.
    let written = c.write.ensures.counted k (omega (arith, l, c.self.invariant.0.each, ap (λ (r : Rowed). length r.pairs) c.self.view_is)) in
    let told = c.tell.ensures.counted k (omega (arith, m, c.self.invariant.1.each, ap (λ (r : Rowed). length r.free) c.self.view_is)) in
    omega (arith, written, told)
