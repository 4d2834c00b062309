use Rattle.std.proofs.Common.{◌<◌, length, refl, sym, ap, subst, arith}
use Rattle.std.proofs.lemmas.List.{length-map}
use Rattle.std.proofs.lemmas.Option.{slice_get_read}
use Rattle.goal_graph.specs.declared.action.Timed.{Timed}
use Rattle.sim_order.specs.Events.{event_before}
use Rattle.sim_queue.specs.Map.{IsEmptyMap, IsLeast}
use Rattle.sim_queue.specs.Groups.{heap_at}
use Rattle.sim_stations.specs.Parts.{Roomed, map_of_items}
use Rattle.sim_stations.proofs.InParts.{part_read}
use Rattle.sim_stations.proofs.ItemTable.{part_in, part_fits, none_of_part, least_of_part}
use Rattle.sim_stations.proofs.item_heaps.ItemHeaps.least_of.Goals as goal

pub returns-then-part-eq0-clause-none : goal.returns-then-part-eq0-clause-none
returns-then-part-eq0-clause-none c =
    let slots = c.self.inside.slots in
    let parts = c.self.inside.parts.items in
    let items = c.self.inside.items.items in
    let heaps = c.self.invariant in
    let part = c.index-part.result.now in
    let within : c.args.group < length parts = omega (arith, c.requires, ap (λ (r : Roomed Timed). length r.maps) c.self.view_is, length-map parts (map_of_items slots items)) in
    let at = part_read parts c.args.group part within c.index-part.ensures in
    λ e. subst (λ (r : Roomed Timed). IsEmptyMap (heap_at r.maps c.args.group)) c.self.view_is (none_of_part slots parts items heaps c.args.group part at (omega (arith, c.if-part-eq0.true)))

pub index-requires : goal.index-requires
index-requires c =
    let slots = c.self.inside.slots in
    let parts = c.self.inside.parts.items in
    let items = c.self.inside.items.items in
    let heaps = c.self.invariant in
    let part = c.index-part.result.now in
    let within : c.args.group < length parts = omega (arith, c.requires, ap (λ (r : Roomed Timed). length r.maps) c.self.view_is, length-map parts (map_of_items slots items)) in
    let at = part_read parts c.args.group part within c.index-part.ensures in
    let some : 0 < part.count = omega (arith, c.if-part-eq0.false) in
    omega (arith, part_in slots parts items heaps c.args.group part at, part_fits slots parts items heaps c.args.group part at, some, c.self.inside.items.ok.0)

pub returns-clause-least : goal.returns-clause-least
returns-clause-least c =
    let slots = c.self.inside.slots in
    let parts = c.self.inside.parts.items in
    let items = c.self.inside.items.items in
    let heaps = c.self.invariant in
    let part = c.index-part.result.now in
    let within : c.args.group < length parts = omega (arith, c.requires, ap (λ (r : Roomed Timed). length r.maps) c.self.view_is, length-map parts (map_of_items slots items)) in
    let at = part_read parts c.args.group part within c.index-part.ensures in
    let some : 0 < part.count = omega (arith, c.if-part-eq0.false) in
    let inside : part.start < length items = omega (arith, part_in slots parts items heaps c.args.group part at, part_fits slots parts items heaps c.args.group part at, some) in
    let first = slice_get_read items (length items) part.start c.index.result.now refl inside c.index.ensures in
    let top = c.index.result.now in (
      top.slot,
      subst (λ (key : Timed). IsLeast event_before (heap_at c.args.self.now.maps c.args.group) top.slot key) (sym c.key.ensures)
          (subst (λ (r : Roomed Timed). IsLeast event_before (heap_at r.maps c.args.group) top.slot top.key) c.self.view_is (least_of_part slots parts items heaps c.args.group part at top some first)),
    )
