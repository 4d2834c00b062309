use Rattle.std.proofs.Common.{◌≡◌, ◌<◌, Some, length, set, slice_get, slice_index, sym, ap, ◌∙◌, subst, arith}
use Rattle.sim_stations.specs.Stations.{held_by, pair_at, AreKnown}
use Rattle.sim_stations.specs.Rows.{Rowed, place_in, turned_at, AreBothTold, IsInRows, AreHeads}
use Rattle.sim_stations.proofs.InRows.{known_for_pair_read, times_held_are_same, both_heads_updated_by_same_times, held_long, with_key, existing_key_is_at_zero, pair_read, pair_at_station, turned_read, written_inside, left_heads, written_seen}
use Rattle.sim_stations.proofs.rows.Rows.leave.Given.{Over}
use Rattle.sim_stations.proofs.rows.Rows.leave.Goals.{After-tell_both}
use Rattle.sim_stations.proofs.rows.Rows.leave.Goals as goal

module _ (g : Over) (c : After-tell_both g) where
  within : c.args.station < length c.self.inside.pairs.items
  within = omega (arith, c.requires.exists, ap (λ (q : Rowed). length q.pairs) c.self.view_is)

  at : slice_get c.self.inside.pairs.items c.args.station ≡ Some c.index-pair.result.now
  at = pair_read c.self.inside.pairs.items c.args.station c.index-pair.result.now within c.index-pair.ensures

  turned : c.index-turned.result.now ≡ turned_at c.self.inside.turned.items c.args.station
  turned =
      turned_read c.self.inside.turned.items c.args.station c.index-turned.result.now (omega (arith, within, c.self.invariant.0.both)) c.index-turned.ensures

  is_new : c.write.new.rows ≡ with_key c.self.inside.rows (place_in c.args.station (turned_at c.self.inside.turned.items c.args.station)) c.args.key
  is_new =
      c.write.ensures.written ∙ ap (λ i. with_key c.self.inside.rows i c.args.key) (c.place_in.ensures ∙ ap (place_in c.args.station) turned)

  told : AreBothTold c.write.new.rows (held_by c.self.inside.free.times c.index-pair.result.now c.args.times.now) c.self.inside.heads c.tell_both.new.heads c.index-pair.result.now
  told =
      let q = c.self.inside in
      let p = c.index-pair.result.now in
      let exist = c.self.invariant.0.exist c.args.station p at in
      both_heads_updated_by_same_times c.write.new.rows c.args.times.now (held_by q.free.times p c.args.times.now) q.heads c.tell_both.new.heads p (times_held_are_same c.args.times.now q.free.times p exist.0 exist.1) c.tell_both.ensures.told

pub tell_both-requires-clause-cpu : goal.tell_both-requires-clause-cpu
tell_both-requires-clause-cpu g c =
    let q = c.self.inside in
    let p = c.index-pair.result.now in
    let within : c.args.station < length q.pairs.items = omega (arith, c.requires.exists, ap (λ (r : Rowed). length r.pairs) c.self.view_is) in
    let at = pair_read q.pairs.items c.args.station p within c.index-pair.ensures in
    omega (arith, c.self.invariant.1.each, (c.self.invariant.0.exist c.args.station p at).0)

pub tell_both-requires-clause-side : goal.tell_both-requires-clause-side
tell_both-requires-clause-side g c =
    let q = c.self.inside in
    let p = c.index-pair.result.now in
    let within : c.args.station < length q.pairs.items = omega (arith, c.requires.exists, ap (λ (r : Rowed). length r.pairs) c.self.view_is) in
    let at = pair_read q.pairs.items c.args.station p within c.index-pair.ensures in
    omega (arith, c.self.invariant.1.each, (c.self.invariant.0.exist c.args.station p at).1)

pub tell_both-requires-clause-known_cpu : goal.tell_both-requires-clause-known_cpu
tell_both-requires-clause-known_cpu g c =
    let q = c.self.inside in
    let p = c.index-pair.result.now in
    let within : c.args.station < length q.pairs.items = omega (arith, c.requires.exists, ap (λ (r : Rowed). length r.pairs) c.self.view_is) in
    let at = pair_read q.pairs.items c.args.station p within c.index-pair.ensures in
    (known_for_pair_read c.args.times.now q.pairs.items c.args.station p at (subst (λ (r : Rowed). AreKnown c.args.times.now (pair_at r.pairs c.args.station)) (sym c.self.view_is) c.requires.known)).has_cpu

pub tell_both-requires-clause-known_side : goal.tell_both-requires-clause-known_side
tell_both-requires-clause-known_side g c =
    let q = c.self.inside in
    let p = c.index-pair.result.now in
    let within : c.args.station < length q.pairs.items = omega (arith, c.requires.exists, ap (λ (r : Rowed). length r.pairs) c.self.view_is) in
    let at = pair_read q.pairs.items c.args.station p within c.index-pair.ensures in
    (known_for_pair_read c.args.times.now q.pairs.items c.args.station p at (subst (λ (r : Rowed). AreKnown c.args.times.now (pair_at r.pairs c.args.station)) (sym c.self.view_is) c.requires.known)).has_side

pub invariant_of-self : goal.invariant_of-self
invariant_of-self g c =
    let q = c.self.inside in
    let p = c.index-pair.result.now in
    let times = c.args.times.now in
    let cpu = slice_index times p.cpu in
    let side = slice_index times p.side in
    let zero = existing_key_is_at_zero c.args.key c.requires.at_zero in
    subst (λ f. IsInRows c.write.new.rows q.pairs.items q.turned.items f × AreHeads c.write.new.rows c.tell_both.new.heads f) (sym c.with-self-inside.ensures) (written_inside q.rows q.heads q.pairs.items q.turned.items q.free.times c.self.invariant.0 c.self.invariant.1 c.args.station p (at g c) c.args.key zero c.write.new.rows (is_new g c) (held_by q.free.times p times) (held_long q.free.times p cpu side), left_heads q.rows q.heads q.pairs.items q.turned.items q.free.times c.self.invariant.0 c.self.invariant.1 c.args.station p (at g c) c.args.key zero c.write.new.rows (is_new g c) cpu side c.tell_both.new.heads (told g c))

pub returns-clause-held : goal.returns-clause-held
returns-clause-held g c =
    let q = c.self.inside in
    let p = c.index-pair.result.now in
    let times = c.args.times.now in
    let zero = existing_key_is_at_zero c.args.key c.requires.at_zero in
    let keys = written_seen q.rows q.heads q.pairs.items q.turned.items q.free.times c.self.invariant.0 c.self.invariant.1 c.args.station p (at g c) c.args.key zero c.write.new.rows (is_new g c) in
    let free = c.with-self-inside.ensures ∙ ap (λ x. held_by q.free.times x times) (sym (pair_at_station q.pairs.items c.args.station p (at g c))) in
    (λ i. record { keys = keys i; pairs = q.pairs.items; turned = q.turned.items; free = free i }) ∙ ap (λ (r : Rowed). record { keys = set r.keys c.args.station c.args.key; pairs = r.pairs; turned = r.turned; free = held_by r.free (pair_at r.pairs c.args.station) times }) c.self.view_is

pub returns-clause-counted : goal.returns-clause-counted
returns-clause-counted g c =
    λ k l m.
    let written = c.write.ensures.counted k (omega (arith, l, c.self.invariant.0.each, ap (λ (r : Rowed). length r.pairs) c.self.view_is)) in
    let told = c.tell_both.ensures.counted k (omega (arith, m, c.self.invariant.1.each, ap (λ (r : Rowed). length r.free) c.self.view_is)) in
    omega (arith, written, told)
