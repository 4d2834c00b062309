use Rattle.std.proofs.Common.{◌<◌, length, is_some, ap, ◌∙◌, arith}
use Rattle.std.proofs.lemmas.List.{get_or_read}
use Rattle.sim_queue.specs.Map.{key_at}
use Rattle.sim_stations.specs.declared.key_place.KeyPlace.TheVariants.{Nowhere}
use Rattle.sim_stations.specs.Stations.{Stationed}
use Rattle.sim_stations.specs.Kept.{has_key}
use Rattle.sim_stations.proofs.Changed.{seen_length_is_slot_count, stand_has_key_iff_seen}
use Rattle.sim_stations.proofs.station_queue.StationQueue.has.Goals as goal

pub index-requires : goal.index-requires
index-requires c =
    let q = c.self.inside in
    omega (arith, c.requires, ap (λ (s : Stationed). length s.keys) c.self.view_is, seen_length_is_slot_count q.ahead q.waiting q.rows q.stands.items c.self.invariant.0, c.self.invariant.0.stood.each)

pub returns : goal.returns
returns c =
    let q = c.self.inside in
    let within : c.args.slot < length q.stands.items = omega (arith, c.requires, ap (λ (s : Stationed). length s.keys) c.self.view_is, seen_length_is_slot_count q.ahead q.waiting q.rows q.stands.items c.self.invariant.0, c.self.invariant.0.stood.each) in
    c.has_key.ensures ∙ ap has_key (get_or_read q.stands.items c.args.slot c.index.result.now within c.index.ensures Nowhere) ∙ stand_has_key_iff_seen q.ahead q.waiting q.rows q.stands.items c.self.invariant.0 c.args.slot ∙ ap (λ (s : Stationed). is_some (key_at s.keys c.args.slot)) c.self.view_is
