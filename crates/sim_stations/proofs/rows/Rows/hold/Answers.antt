use Rattle.std.proofs.Common.{◌<◌, length, slice_index, sym, ap, ◌∙◌, subst, arith}
use Rattle.sim_queue.specs.Map.{key_at}
use Rattle.sim_stations.specs.Stations.{held_by, pair_at, AreKnown}
use Rattle.sim_stations.specs.Rows.{Rowed, seen, AreBothTold, IsInRows, AreHeads}
use Rattle.sim_stations.proofs.Heads.{empty_group_has_no_head}
use Rattle.sim_stations.proofs.InRows.{pair_read, pair_at_station, known_for_pair_read, times_held_are_same, both_heads_updated_by_same_times, held_inside, held_heads}
use Rattle.sim_stations.proofs.rows.Rows.hold.Goals as goal

pub raise_both-requires-clause-cpu : goal.raise_both-requires-clause-cpu
raise_both-requires-clause-cpu g c =
    let q = c.self.inside in
    let p = c.index-pair.result.now in
    let within : c.args.station < length q.pairs.items = omega (arith, c.requires.exists, ap (λ (r : Rowed). length r.pairs) c.self.view_is) in
    let at = pair_read q.pairs.items c.args.station p within c.index-pair.ensures in
    omega (arith, c.self.invariant.1.each, (c.self.invariant.0.exist c.args.station p at).0)

pub raise_both-requires-clause-side : goal.raise_both-requires-clause-side
raise_both-requires-clause-side g c =
    let q = c.self.inside in
    let p = c.index-pair.result.now in
    let within : c.args.station < length q.pairs.items = omega (arith, c.requires.exists, ap (λ (r : Rowed). length r.pairs) c.self.view_is) in
    let at = pair_read q.pairs.items c.args.station p within c.index-pair.ensures in
    omega (arith, c.self.invariant.1.each, (c.self.invariant.0.exist c.args.station p at).1)

pub raise_both-requires-clause-known_cpu : goal.raise_both-requires-clause-known_cpu
raise_both-requires-clause-known_cpu g c =
    let q = c.self.inside in
    let p = c.index-pair.result.now in
    let within : c.args.station < length q.pairs.items = omega (arith, c.requires.exists, ap (λ (r : Rowed). length r.pairs) c.self.view_is) in
    let at = pair_read q.pairs.items c.args.station p within c.index-pair.ensures in
    (known_for_pair_read c.args.times.now q.pairs.items c.args.station p at (subst (λ (r : Rowed). AreKnown c.args.times.now (pair_at r.pairs c.args.station)) (sym c.self.view_is) c.requires.known)).has_cpu

pub raise_both-requires-clause-known_side : goal.raise_both-requires-clause-known_side
raise_both-requires-clause-known_side g c =
    let q = c.self.inside in
    let p = c.index-pair.result.now in
    let within : c.args.station < length q.pairs.items = omega (arith, c.requires.exists, ap (λ (r : Rowed). length r.pairs) c.self.view_is) in
    let at = pair_read q.pairs.items c.args.station p within c.index-pair.ensures in
    (known_for_pair_read c.args.times.now q.pairs.items c.args.station p at (subst (λ (r : Rowed). AreKnown c.args.times.now (pair_at r.pairs c.args.station)) (sym c.self.view_is) c.requires.known)).has_side

pub raise_both-requires-clause-empty_cpu : goal.raise_both-requires-clause-empty_cpu
raise_both-requires-clause-empty_cpu g c =
    let q = c.self.inside in
    let p = c.index-pair.result.now in
    let within : c.args.station < length q.pairs.items = omega (arith, c.requires.exists, ap (λ (r : Rowed). length r.pairs) c.self.view_is) in
    let at = pair_read q.pairs.items c.args.station p within c.index-pair.ensures in
    empty_group_has_no_head q.rows p.cpu (slice_index q.free.times p.cpu) (key_at q.heads p.cpu) (c.self.invariant.1.headed p.cpu (c.self.invariant.0.exist c.args.station p at).0)

pub raise_both-requires-clause-empty_side : goal.raise_both-requires-clause-empty_side
raise_both-requires-clause-empty_side g c =
    let q = c.self.inside in
    let p = c.index-pair.result.now in
    let within : c.args.station < length q.pairs.items = omega (arith, c.requires.exists, ap (λ (r : Rowed). length r.pairs) c.self.view_is) in
    let at = pair_read q.pairs.items c.args.station p within c.index-pair.ensures in
    empty_group_has_no_head q.rows p.side (slice_index q.free.times p.side) (key_at q.heads p.side) (c.self.invariant.1.headed p.side (c.self.invariant.0.exist c.args.station p at).1)

pub invariant_of-self : goal.invariant_of-self
invariant_of-self g c =
    let q = c.self.inside in
    let p = c.index-pair.result.now in
    let times = c.args.times.now in
    let cpu = slice_index times p.cpu in
    let side = slice_index times p.side in
    let within : c.args.station < length q.pairs.items = omega (arith, c.requires.exists, ap (λ (r : Rowed). length r.pairs) c.self.view_is) in
    let exist = c.self.invariant.0.exist c.args.station p (pair_read q.pairs.items c.args.station p within c.index-pair.ensures) in
    let told : AreBothTold q.rows (held_by q.free.times p times) q.heads c.raise_both.new.heads p = both_heads_updated_by_same_times q.rows times (held_by q.free.times p times) q.heads c.raise_both.new.heads p (times_held_are_same times q.free.times p exist.0 exist.1) c.raise_both.ensures.told in
    subst (λ f. IsInRows q.rows q.pairs.items q.turned.items f × AreHeads q.rows c.raise_both.new.heads f) (sym c.with-self-inside.ensures) (held_inside q.rows q.heads q.pairs.items q.turned.items q.free.times c.self.invariant.0 c.self.invariant.1 p cpu side, held_heads q.rows q.heads q.pairs.items q.turned.items q.free.times c.self.invariant.0 c.self.invariant.1 p cpu side c.raise_both.new.heads told)

pub returns-clause-held : goal.returns-clause-held
returns-clause-held g c =
    let q = c.self.inside in
    let p = c.index-pair.result.now in
    let times = c.args.times.now in
    let within : c.args.station < length q.pairs.items = omega (arith, c.requires.exists, ap (λ (r : Rowed). length r.pairs) c.self.view_is) in
    let pair = pair_at_station q.pairs.items c.args.station p (pair_read q.pairs.items c.args.station p within c.index-pair.ensures) in
    ap (λ f. record { keys = seen q.turned.items q.rows.keys; pairs = q.pairs.items; turned = q.turned.items; free = f }) (c.with-self-inside.ensures ∙ ap (λ x. held_by q.free.times x times) (sym pair)) ∙ ap (λ (r : Rowed). record { keys = r.keys; pairs = r.pairs; turned = r.turned; free = held_by r.free (pair_at r.pairs c.args.station) times }) c.self.view_is

pub returns-clause-counted : goal.returns-clause-counted
returns-clause-counted g c =
    λ k l.
    let q = c.self.inside in
    c.raise_both.ensures.counted k (omega (arith, l, c.self.invariant.1.each, ap (λ (r : Rowed). length r.free) c.self.view_is))
