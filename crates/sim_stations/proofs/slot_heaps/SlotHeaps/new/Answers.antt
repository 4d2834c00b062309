use Rattle.std.proofs.Common.{◌≡◌, length, arith}
use Rattle.sim_stations.proofs.Fresh.{slot_heaps_without_keys, slot_maps_without_keys}
use Rattle.sim_stations.proofs.slot_heaps.SlotHeaps.new.Goals as goal

pub invariant_of-result : goal.invariant_of-result
invariant_of-result c =
    let is = c.in_ok-parts.ensures in
    let places = c.in_ok-places.places.items in
    let places_each : length places ≡ c.in_ok-parts.size = omega (arith, c.in_ok-places.ensures.len, c.in_ok-places.places.ok.0) in
    slot_heaps_without_keys c.in_ok-parts.parts.items c.in_ok-parts.size is.packed is.none c.args.counts.now is.rooms c.in_ok-items.items.items places c.in_ok-items.ensures places_each (omega (arith, is.all, c.requires))

pub returns : goal.returns
returns c =
    let is = c.in_ok-parts.ensures in
    let places = c.in_ok-places.places.items in
    let places_each : length places ≡ c.in_ok-parts.size = omega (arith, c.in_ok-places.ensures.len, c.in_ok-places.places.ok.0) in
    slot_maps_without_keys c.in_ok-parts.parts.items c.in_ok-parts.size is.packed is.none c.args.counts.now is.rooms c.in_ok-items.items.items places c.in_ok-items.ensures places_each
