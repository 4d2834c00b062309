use Rattle.std.proofs.Common.{◌<◌, length, max, sym, ap, ap₂, ◌∙◌, subst, arith}
use Rattle.sim_stations.specs.Stations.{both_free, pair_at, AreTimesOf}
use Rattle.sim_stations.specs.Rows.{Rowed}
use Rattle.sim_stations.proofs.InRows.{pair_read, pair_at_station, times_for_pair_read, times_known, times_known_are_same}
use Rattle.sim_stations.proofs.rows.Rows.free.Goals as goal

pub bounds-times-pair : goal.bounds-times-pair
bounds-times-pair g c =
    let q = c.self.inside in
    let p = c.index-pair.result.now in
    let within : c.args.station < length q.pairs.items = omega (arith, c.requires.exists, ap (λ (r : Rowed). length r.pairs) c.self.view_is) in
    let at = pair_read q.pairs.items c.args.station p within c.index-pair.ensures in
    let times : AreTimesOf c.args.times.now q.free.times p = times_for_pair_read c.args.times.now q.free.times q.pairs.items c.args.station p at (subst (λ (r : Rowed). AreTimesOf c.args.times.now r.free (pair_at r.pairs c.args.station)) (sym c.self.view_is) c.requires.times) in
    (times_known c.args.times.now q.free.times p times).has_cpu

pub bounds-times-pair-2 : goal.bounds-times-pair-2
bounds-times-pair-2 g c =
    let q = c.self.inside in
    let p = c.index-pair.result.now in
    let within : c.args.station < length q.pairs.items = omega (arith, c.requires.exists, ap (λ (r : Rowed). length r.pairs) c.self.view_is) in
    let at = pair_read q.pairs.items c.args.station p within c.index-pair.ensures in
    let times : AreTimesOf c.args.times.now q.free.times p = times_for_pair_read c.args.times.now q.free.times q.pairs.items c.args.station p at (subst (λ (r : Rowed). AreTimesOf c.args.times.now r.free (pair_at r.pairs c.args.station)) (sym c.self.view_is) c.requires.times) in
    (times_known c.args.times.now q.free.times p times).has_side

pub returns-clause-free : goal.returns-clause-free
returns-clause-free g c =
    let q = c.self.inside in
    let p = c.index-pair.result.now in
    let within : c.args.station < length q.pairs.items = omega (arith, c.requires.exists, ap (λ (r : Rowed). length r.pairs) c.self.view_is) in
    let at = pair_read q.pairs.items c.args.station p within c.index-pair.ensures in
    let times : AreTimesOf c.args.times.now q.free.times p = times_for_pair_read c.args.times.now q.free.times q.pairs.items c.args.station p at (subst (λ (r : Rowed). AreTimesOf c.args.times.now r.free (pair_at r.pairs c.args.station)) (sym c.self.view_is) c.requires.times) in
    let same = times_known_are_same c.args.times.now q.free.times p times in
    c.max.ensures ∙ ap₂ max same.cpu same.side ∙ ap (both_free q.free.times) (sym (pair_at_station q.pairs.items c.args.station p at)) ∙ ap (λ (r : Rowed). both_free r.free (pair_at r.pairs c.args.station)) c.self.view_is
