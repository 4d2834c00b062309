use Rattle.sim_stations.proofs.Fresh.{item_heaps_without_keys, roomed_without_items}
use Rattle.sim_stations.proofs.item_heaps.ItemHeaps.new.Goals as goal

pub invariant_of-result : goal.invariant_of-result
invariant_of-result c =
    let is = c.in_ok-parts.ensures in
    item_heaps_without_keys c.in_ok-parts.parts.items c.in_ok-parts.size is.packed is.none c.args.counts.now is.rooms c.in_ok-items.items.items c.in_ok-items.ensures c.args.slots c.requires.few

pub returns : goal.returns
returns c =
    let is = c.in_ok-parts.ensures in
    roomed_without_items c.in_ok-parts.parts.items c.in_ok-parts.size is.packed is.none c.args.counts.now is.rooms c.in_ok-items.items.items c.in_ok-items.ensures c.args.slots
