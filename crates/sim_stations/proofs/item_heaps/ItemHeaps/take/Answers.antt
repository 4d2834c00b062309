use Rattle.std.proofs.Common.{◌≡◌, ◌<◌, ◌≤◌, ◌+◌, ◌-◌, List, None, length, take, drop, slice_index, slice_set, sym, ap, ◌∙◌, subst, arith}
use Rattle.std.proofs.lemmas.List.{length-map, with_items_is}
use Rattle.goal_graph.specs.declared.action.Timed.{Timed}
use Rattle.sim_order.specs.Events.{event_before}
use Rattle.sim_order.specs.EventLaws.{event_laws}
use Rattle.sim_queue.specs.Item.{Item}
use Rattle.sim_queue.specs.Map.{IsSoleLeast}
use Rattle.sim_queue.specs.TopHeap.{placed, IsTopHeap}
use Rattle.sim_queue.proofs.ForCallers.{some_items}
use Rattle.sim_queue.specs.Groups.{heap_at, with_key}
use Rattle.sim_stations.specs.AtSlots.{at_home}
use Rattle.sim_stations.specs.Parts.{Roomed, all_but_last, map_of_items, roomed, AreItemHeaps}
use Rattle.sim_stations.proofs.InParts.{put_mid, part_read}
use Rattle.sim_stations.proofs.ItemTable.{part_in, part_fits, heap_of_part, count_of_part, map_of_part, room_of_its_part, items_length_unchanged, items_after, roomed_after}
use Rattle.sim_stations.proofs.item_heaps.ItemHeaps.take.Goals as goal

pub slice_bounds-leave-end : goal.slice_bounds-leave-end
slice_bounds-leave-end g c =
    let slots = c.self.inside.slots in
    let parts = c.self.inside.parts.items in
    let items = c.self.inside.items.items in
    let heaps = c.self.invariant in
    let group = c.args.group in
    let part = c.index-part.result.now in
    let within : group < length parts = omega (arith, c.requires.group_in, ap (λ (r : Roomed Timed). length r.maps) c.self.view_is, length-map parts (map_of_items slots items)) in
    let at = part_read parts group part within c.index-part.ensures in
    let same : c.deref_mut.result.now ≡ items = c.deref_mut.ensures.value in
    omega (arith, part_in slots parts items heaps group part at, part_fits slots parts items heaps group part at, ap length same, c.self.inside.items.ok.0)

pub leave-requires-clause-heap : goal.leave-requires-clause-heap
leave-requires-clause-heap g c =
    let slots = c.self.inside.slots in
    let parts = c.self.inside.parts.items in
    let items = c.self.inside.items.items in
    let heaps = c.self.invariant in
    let group = c.args.group in
    let part = c.index-part.result.now in
    let within : group < length parts = omega (arith, c.requires.group_in, ap (λ (r : Roomed Timed). length r.maps) c.self.view_is, length-map parts (map_of_items slots items)) in
    let at = part_read parts group part within c.index-part.ensures in
    let same : c.deref_mut.result.now ≡ items = c.deref_mut.ensures.value in
    let n = part.start + part.count - part.start in
    let many : n ≡ part.count = omega arith in
    subst (λ (xs : List (Item Timed)). IsTopHeap event_before (take n (drop part.start xs)) slots slots) (sym same) (heap_of_part slots parts items heaps group part at)

pub leave-requires-clause-least : goal.leave-requires-clause-least
leave-requires-clause-least g c =
    let slots = c.self.inside.slots in
    let parts = c.self.inside.parts.items in
    let items = c.self.inside.items.items in
    let heaps = c.self.invariant in
    let group = c.args.group in
    let part = c.index-part.result.now in
    let within : group < length parts = omega (arith, c.requires.group_in, ap (λ (r : Roomed Timed). length r.maps) c.self.view_is, length-map parts (map_of_items slots items)) in
    let at = part_read parts group part within c.index-part.ensures in
    let same : c.deref_mut.result.now ≡ items = c.deref_mut.ensures.value in
    let n = part.start + part.count - part.start in
    let many : n ≡ part.count = omega arith in
    let least = subst (λ h. IsSoleLeast event_before h c.args.slot) (map_of_part slots parts items heaps group part at) (subst (λ (r : Roomed Timed). IsSoleLeast event_before (heap_at r.maps group) c.args.slot) (sym c.self.view_is) c.requires.least) in
    subst (λ (xs : List (Item Timed)). IsSoleLeast event_before (placed slots (take n (drop part.start xs))) c.args.slot) (sym same) least

pub overflow_sub-count : goal.overflow_sub-count
overflow_sub-count g c =
    let slots = c.self.inside.slots in
    let parts = c.self.inside.parts.items in
    let items = c.self.inside.items.items in
    let heaps = c.self.invariant in
    let group = c.args.group in
    let part = c.index-part.result.now in
    let within : group < length parts = omega (arith, c.requires.group_in, ap (λ (r : Roomed Timed). length r.maps) c.self.view_is, length-map parts (map_of_items slots items)) in
    let at = part_read parts group part within c.index-part.ensures in
    let n = part.start + part.count - part.start in
    let many : n ≡ part.count = omega arith in
    let least = subst (λ h. IsSoleLeast event_before h c.args.slot) (map_of_part slots parts items heaps group part at) (subst (λ (r : Roomed Timed). IsSoleLeast event_before (heap_at r.maps group) c.args.slot) (sym c.self.view_is) c.requires.least) in
    let heap = heap_of_part slots parts items heaps group part at in
    let some : 0 < part.count = omega (arith, some_items event_before event_laws slots (take n (drop part.start items)) heap.apart heap.ordered c.args.slot least, count_of_part slots parts items heaps group part at) in
    omega (arith, some)

pub invariant_of-self : goal.invariant_of-self
invariant_of-self g c =
    let slots = c.self.inside.slots in
    let parts = c.self.inside.parts.items in
    let items = c.self.inside.items.items in
    let heaps = c.self.invariant in
    let group = c.args.group in
    let part = c.index-part.result.now in
    let within : group < length parts = omega (arith, c.requires.group_in, ap (λ (r : Roomed Timed). length r.maps) c.self.view_is, length-map parts (map_of_items slots items)) in
    let at = part_read parts group part within c.index-part.ensures in
    let same : c.deref_mut.result.now ≡ items = c.deref_mut.ensures.value in
    let n = part.start + part.count - part.start in
    let many : n ≡ part.count = omega arith in
    let ys = c.leave.new.items in
    let in_part : n ≤ part.room = omega (arith, many, part_fits slots parts items heaps group part at) in
    let each : length ys ≡ n = c.leave.ensures.each ∙ ap (λ xs. length (take n (drop part.start xs))) same ∙ count_of_part slots parts items heaps group part at ∙ sym many in
    let few : part.count - 1 ≤ n = omega (arith, many) in
    let whole : take (part.count - 1) ys ≡ all_but_last ys = ap (λ m. take m ys) (omega (arith, each, many)) in
    let now = with_items_is c.self.inside.items (put_mid part.start n c.deref_mut.result.now ys) (omega (arith, ap (λ xs. length (put_mid part.start n xs ys)) same, items_length_unchanged slots parts items heaps group part at ys n in_part each (part.count - 1) few, c.self.inside.items.ok.0)) ∙ ap (λ xs. put_mid part.start n xs ys) same in
    let new_parts = slice_set parts group (record { start = part.start; room = part.room; count = part.count - 1 }) in
    subst (AreItemHeaps event_before slots new_parts) (sym now)
    (items_after slots parts items heaps group part at ys n in_part each (part.count - 1) few (subst (λ (xs : List (Item Timed)). IsTopHeap event_before xs slots slots) (sym whole) c.leave.ensures.heap))

pub returns-clause-taken : goal.returns-clause-taken
returns-clause-taken g c =
    let slots = c.self.inside.slots in
    let parts = c.self.inside.parts.items in
    let items = c.self.inside.items.items in
    let heaps = c.self.invariant in
    let group = c.args.group in
    let part = c.index-part.result.now in
    let within : group < length parts = omega (arith, c.requires.group_in, ap (λ (r : Roomed Timed). length r.maps) c.self.view_is, length-map parts (map_of_items slots items)) in
    let at = part_read parts group part within c.index-part.ensures in
    let same : c.deref_mut.result.now ≡ items = c.deref_mut.ensures.value in
    let n = part.start + part.count - part.start in
    let many : n ≡ part.count = omega arith in
    let ys = c.leave.new.items in
    let in_part : n ≤ part.room = omega (arith, many, part_fits slots parts items heaps group part at) in
    let each : length ys ≡ n = c.leave.ensures.each ∙ ap (λ xs. length (take n (drop part.start xs))) same ∙ count_of_part slots parts items heaps group part at ∙ sym many in
    let few : part.count - 1 ≤ n = omega (arith, many) in
    let whole : take (part.count - 1) ys ≡ all_but_last ys = ap (λ m. take m ys) (omega (arith, each, many)) in
    let now = with_items_is c.self.inside.items (put_mid part.start n c.deref_mut.result.now ys) (omega (arith, ap (λ xs. length (put_mid part.start n xs ys)) same, items_length_unchanged slots parts items heaps group part at ys n in_part each (part.count - 1) few, c.self.inside.items.ok.0)) ∙ ap (λ xs. put_mid part.start n xs ys) same in
    let new_parts = slice_set parts group (record { start = part.start; room = part.room; count = part.count - 1 }) in
    let map_now = ap (placed slots) whole ∙ c.leave.ensures.taken ∙ ap (λ xs. slice_set (placed slots (take n (drop part.start xs))) c.args.slot None) same in
    ap (roomed slots new_parts) now
    ∙ roomed_after slots parts items heaps group part at ys n in_part each (part.count - 1) few c.args.slot None map_now
    ∙ ap (λ (r : Roomed Timed). record { maps = with_key r.maps (at_home group c.args.slot) None; rooms = r.rooms }) c.self.view_is

pub returns-clause-counted : goal.returns-clause-counted
returns-clause-counted g c =
    let slots = c.self.inside.slots in
    let parts = c.self.inside.parts.items in
    let items = c.self.inside.items.items in
    let heaps = c.self.invariant in
    let group = c.args.group in
    let part = c.index-part.result.now in
    let within : group < length parts = omega (arith, c.requires.group_in, ap (λ (r : Roomed Timed). length r.maps) c.self.view_is, length-map parts (map_of_items slots items)) in
    let at = part_read parts group part within c.index-part.ensures in
    let same : c.deref_mut.result.now ≡ items = c.deref_mut.ensures.value in
    let n = part.start + part.count - part.start in
    let many : n ≡ part.count = omega arith in
    let bound = ap (λ (r : Roomed Timed). slice_index r.rooms group) c.self.view_is in
    λ k few.
    c.leave.ensures.counted k (omega (arith, few, bound, room_of_its_part slots parts items heaps group part at, part_fits slots parts items heaps group part at, count_of_part slots parts items heaps group part at, ap (λ xs. length (take n (drop part.start xs))) same))
