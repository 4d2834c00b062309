use Rattle.std.proofs.Common.{◌<◌, List, Option, length, refl, ap, subst, arith}
use Rattle.std.proofs.lemmas.List.{length-map}
use Rattle.std.proofs.lemmas.Option.{slice_get_read}
use Rattle.goal_graph.specs.declared.action.Timed.{Timed}
use Rattle.sim_order.specs.Events.{event_before}
use Rattle.sim_queue.specs.Map.{IsEmptyMap, IsLeast}
use Rattle.sim_queue.specs.Groups.{heap_at}
use Rattle.sim_stations.specs.Parts.{map_of_slots}
use Rattle.sim_stations.proofs.InParts.{part_read}
use Rattle.sim_stations.proofs.SlotTable.{part_in, part_fits, none_of_part, least_of_part}
use Rattle.sim_stations.proofs.slot_heaps.SlotHeaps.least_of.Goals as goal

pub returns-then-part-eq0-clause-none : goal.returns-then-part-eq0-clause-none
returns-then-part-eq0-clause-none c =
    let parts = c.self.inside.parts.items in
    let items = c.self.inside.items.items in
    let places = c.self.inside.places.items in
    let heaps = c.self.invariant in
    let part = c.index-part.result.now in
    let within : c.args.group < length parts = omega (arith, c.requires, ap length c.self.view_is, length-map parts (map_of_slots items)) in
    let at = part_read parts c.args.group part within c.index-part.ensures in
    λ e. subst (λ (hs : List (List (Option Timed))). IsEmptyMap (heap_at hs c.args.group)) c.self.view_is (none_of_part parts items places heaps c.args.group part at (omega (arith, c.if-part-eq0.true)))

pub index-requires : goal.index-requires
index-requires c =
    let parts = c.self.inside.parts.items in
    let items = c.self.inside.items.items in
    let places = c.self.inside.places.items in
    let heaps = c.self.invariant in
    let part = c.index-part.result.now in
    let within : c.args.group < length parts = omega (arith, c.requires, ap length c.self.view_is, length-map parts (map_of_slots items)) in
    let at = part_read parts c.args.group part within c.index-part.ensures in
    let some : 0 < part.count = omega (arith, c.if-part-eq0.false) in
    let inside : part.start < length items = omega (arith, part_in parts items places heaps c.args.group part at, part_fits parts items places heaps c.args.group part at, some) in
    omega (arith, inside, c.self.inside.items.ok.0)

pub returns-clause-least : goal.returns-clause-least
returns-clause-least c =
    let parts = c.self.inside.parts.items in
    let items = c.self.inside.items.items in
    let places = c.self.inside.places.items in
    let heaps = c.self.invariant in
    let part = c.index-part.result.now in
    let within : c.args.group < length parts = omega (arith, c.requires, ap length c.self.view_is, length-map parts (map_of_slots items)) in
    let at = part_read parts c.args.group part within c.index-part.ensures in
    let some : 0 < part.count = omega (arith, c.if-part-eq0.false) in
    let inside : part.start < length items = omega (arith, part_in parts items places heaps c.args.group part at, part_fits parts items places heaps c.args.group part at, some) in
    let first = slice_get_read items (length items) part.start c.index.result.now refl inside c.index.ensures in (
      c.index.result.now.slot,
      rw c.key.ensures
          (subst (λ (hs : List (List (Option Timed))). IsLeast event_before (heap_at hs c.args.group) c.index.result.now.slot c.index.result.now.key) c.self.view_is
          (least_of_part parts items places heaps c.args.group part at c.index.result.now some first)),
    )
