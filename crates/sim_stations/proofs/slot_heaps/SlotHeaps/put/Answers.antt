use Rattle.std.proofs.Common.{◌≡◌, ◌<◌, ◌≤◌, ◌+◌, ◌-◌, ℕ, List, Option, Some, length, take, drop, slice_set, refl, sym, ap, ◌∙◌, subst, arith}
use Rattle.std.proofs.lemmas.List.{length-map, with_items_is}
use Rattle.goal_graph.specs.declared.action.Timed.{Timed}
use Rattle.sim_order.specs.Events.{event_before}
use Rattle.sim_queue.specs.TopHeap.{placed, IsSlotHeap}
use Rattle.sim_queue.specs.Item.{Item, at_time}
use Rattle.sim_queue.specs.Groups.{heap_at, with_key}
use Rattle.sim_stations.specs.Parts.{map_of_slots, maps_of_slots}
use Rattle.sim_stations.proofs.InParts.{put_mid, part_read, length-written}
use Rattle.sim_stations.proofs.SlotTable.{slot_heaps_of_equal_lists, part_in, part_fits, part_small, places_long, items_long, map_length_is_room, heap_of_part, slots_after, maps_after}
use Rattle.sim_stations.proofs.slot_heaps.SlotHeaps.put.Goals as goal

pub slice_bounds-write-end : goal.slice_bounds-write-end
slice_bounds-write-end g c =
    let h = c.self.inside in
    let heaps = c.self.invariant in
    let part = c.index-part.result.now in
    let within : c.args.home.group < length h.parts.items = omega (arith, c.requires.group_in, ap length c.self.view_is, length-map h.parts.items (map_of_slots h.items.items)) in
    let inside = heaps.packed.within c.args.home.group part (part_read h.parts.items c.args.home.group part within c.index-part.ensures) in
    omega (arith, inside, ap length c.deref_mut.ensures.value)

pub slice_bounds-write-end-2 : goal.slice_bounds-write-end-2
slice_bounds-write-end-2 g c =
    let h = c.self.inside in
    let heaps = c.self.invariant in
    let part = c.index-part.result.now in
    let within : c.args.home.group < length h.parts.items = omega (arith, c.requires.group_in, ap length c.self.view_is, length-map h.parts.items (map_of_slots h.items.items)) in
    let inside = heaps.packed.within c.args.home.group part (part_read h.parts.items c.args.home.group part within c.index-part.ensures) in
    omega (arith, inside, ap length c.deref_mut-2.ensures.value, heaps.places_each)

pub write-count-requires-clause-heap : goal.write-count-requires-clause-heap
write-count-requires-clause-heap g c =
    let parts = c.self.inside.parts.items in
    let items = c.self.inside.items.items in
    let places = c.self.inside.places.items in
    let heaps = c.self.invariant in
    let home = c.args.home in
    let part = c.index-part.result.now in
    let within : home.group < length parts = omega (arith, c.requires.group_in, ap length c.self.view_is, length-map parts (map_of_slots items)) in
    let at = part_read parts home.group part within c.index-part.ensures in
    let inside = part_in parts items places heaps home.group part at in
    let fits = part_fits parts items places heaps home.group part at in
    let all : part.start + part.room - part.start ≡ part.room = omega arith in
    let same : c.deref_mut.result.now ≡ items = c.deref_mut.ensures.value in
    let same_places : c.deref_mut-2.result.now ≡ places = c.deref_mut-2.ensures.value in
    let long : length (take (part.start + part.room - part.start) (drop part.start items)) ≡ part.room = items_long parts items places heaps home.group part at in
    let places_are : length (take (part.start + part.room - part.start) (drop part.start places)) ≡ part.room = places_long parts items places heaps home.group part at in
    subst (λ (xs : List (Item Timed)). IsSlotHeap event_before (take part.count (take (part.start + part.room - part.start) (drop part.start xs))) (take (part.start + part.room - part.start) (drop part.start c.deref_mut-2.result.now)) (length (take (part.start + part.room - part.start) (drop part.start xs)))) (sym same)
    (subst (λ (xs : List ℕ). IsSlotHeap event_before (take part.count (take (part.start + part.room - part.start) (drop part.start items))) (take (part.start + part.room - part.start) (drop part.start xs)) (length (take (part.start + part.room - part.start) (drop part.start items)))) (sym same_places)
    (heap_of_part parts items places heaps home.group part at))

pub write-count-requires-clause-slot_in : goal.write-count-requires-clause-slot_in
write-count-requires-clause-slot_in g c =
    let parts = c.self.inside.parts.items in
    let items = c.self.inside.items.items in
    let places = c.self.inside.places.items in
    let heaps = c.self.invariant in
    let home = c.args.home in
    let part = c.index-part.result.now in
    let within : home.group < length parts = omega (arith, c.requires.group_in, ap length c.self.view_is, length-map parts (map_of_slots items)) in
    let at = part_read parts home.group part within c.index-part.ensures in
    let same_places : c.deref_mut-2.result.now ≡ places = c.deref_mut-2.ensures.value in
    let places_are : length (take (part.start + part.room - part.start) (drop part.start places)) ≡ part.room = places_long parts items places heaps home.group part at in
    omega (arith, c.requires.place_in, ap (λ hs. length (heap_at hs home.group)) c.self.view_is, map_length_is_room parts items places heaps home.group part at, ap (λ xs. length (take (part.start + part.room - part.start) (drop part.start xs))) same_places, places_are)

pub write-count-requires-clause-room : goal.write-count-requires-clause-room
write-count-requires-clause-room g c =
    let parts = c.self.inside.parts.items in
    let items = c.self.inside.items.items in
    let places = c.self.inside.places.items in
    let heaps = c.self.invariant in
    let home = c.args.home in
    let part = c.index-part.result.now in
    let within : home.group < length parts = omega (arith, c.requires.group_in, ap length c.self.view_is, length-map parts (map_of_slots items)) in
    let at = part_read parts home.group part within c.index-part.ensures in
    let inside = part_in parts items places heaps home.group part at in
    let fits = part_fits parts items places heaps home.group part at in
    let all : part.start + part.room - part.start ≡ part.room = omega arith in
    let same : c.deref_mut.result.now ≡ items = c.deref_mut.ensures.value in
    let same_places : c.deref_mut-2.result.now ≡ places = c.deref_mut-2.ensures.value in
    let long : length (take (part.start + part.room - part.start) (drop part.start items)) ≡ part.room = items_long parts items places heaps home.group part at in
    let places_are : length (take (part.start + part.room - part.start) (drop part.start places)) ≡ part.room = places_long parts items places heaps home.group part at in
    omega (arith, fits, ap (λ xs. length (take (part.start + part.room - part.start) (drop part.start xs))) same, long)

pub invariant_of-self : goal.invariant_of-self
invariant_of-self g c =
    let parts = c.self.inside.parts.items in
    let items = c.self.inside.items.items in
    let places = c.self.inside.places.items in
    let heaps = c.self.invariant in
    let home = c.args.home in
    let part = c.index-part.result.now in
    let within : home.group < length parts = omega (arith, c.requires.group_in, ap length c.self.view_is, length-map parts (map_of_slots items)) in
    let at = part_read parts home.group part within c.index-part.ensures in
    let inside = part_in parts items places heaps home.group part at in
    let fits = part_fits parts items places heaps home.group part at in
    let all : part.start + part.room - part.start ≡ part.room = omega arith in
    let same : c.deref_mut.result.now ≡ items = c.deref_mut.ensures.value in
    let same_places : c.deref_mut-2.result.now ≡ places = c.deref_mut-2.ensures.value in
    let long : length (take (part.start + part.room - part.start) (drop part.start items)) ≡ part.room = items_long parts items places heaps home.group part at in
    let places_are : length (take (part.start + part.room - part.start) (drop part.start places)) ≡ part.room = places_long parts items places heaps home.group part at in
    let ys = c.write-count.new.items in
    let ps = c.write-count.new.places in
    let each : length ys ≡ part.start + part.room - part.start = c.write-count.ensures.each ∙ ap (λ xs. length (take (part.start + part.room - part.start) (drop part.start xs))) same ∙ long ∙ sym all in
    let places_each : length ps ≡ part.start + part.room - part.start = c.write-count.auto.places ∙ ap (λ xs. length (take (part.start + part.room - part.start) (drop part.start xs))) same_places ∙ places_are ∙ sym all in
    let in_part : part.start + part.room - part.start ≤ part.room = omega (arith, all) in
    let keep = length-written parts (length items) heaps.packed home.group part at items ys (part.start + part.room - part.start) refl in_part each in
    let keep_places = length-written parts (length items) heaps.packed home.group part at places ps (part.start + part.room - part.start) heaps.places_each in_part places_each in
    let now = with_items_is c.self.inside.items (put_mid part.start (part.start + part.room - part.start) c.deref_mut.result.now ys) (omega (arith, ap (λ xs. length (put_mid part.start (part.start + part.room - part.start) xs ys)) same, keep, c.self.inside.items.ok.0)) ∙ ap (λ xs. put_mid part.start (part.start + part.room - part.start) xs ys) same in
    let now_places = with_items_is c.self.inside.places (put_mid part.start (part.start + part.room - part.start) c.deref_mut-2.result.now ps) (omega (arith, ap (λ xs. length (put_mid part.start (part.start + part.room - part.start) xs ps)) same_places, keep_places, c.self.inside.places.ok.0)) ∙ ap (λ xs. put_mid part.start (part.start + part.room - part.start) xs ps) same_places in
    let new_parts = slice_set parts home.group (record { start = part.start; room = part.room; count = c.write-count.result }) in
    slot_heaps_of_equal_lists new_parts now now_places (slots_after parts items places heaps home.group part at (part.start + part.room - part.start) all ys ps each places_each c.write-count.result c.write-count.ensures.room c.write-count.ensures.heap)

pub returns-clause-put : goal.returns-clause-put
returns-clause-put g c =
    let parts = c.self.inside.parts.items in
    let items = c.self.inside.items.items in
    let places = c.self.inside.places.items in
    let heaps = c.self.invariant in
    let home = c.args.home in
    let part = c.index-part.result.now in
    let within : home.group < length parts = omega (arith, c.requires.group_in, ap length c.self.view_is, length-map parts (map_of_slots items)) in
    let at = part_read parts home.group part within c.index-part.ensures in
    let inside = part_in parts items places heaps home.group part at in
    let fits = part_fits parts items places heaps home.group part at in
    let all : part.start + part.room - part.start ≡ part.room = omega arith in
    let same : c.deref_mut.result.now ≡ items = c.deref_mut.ensures.value in
    let same_places : c.deref_mut-2.result.now ≡ places = c.deref_mut-2.ensures.value in
    let long : length (take (part.start + part.room - part.start) (drop part.start items)) ≡ part.room = items_long parts items places heaps home.group part at in
    let places_are : length (take (part.start + part.room - part.start) (drop part.start places)) ≡ part.room = places_long parts items places heaps home.group part at in
    let ys = c.write-count.new.items in
    let ps = c.write-count.new.places in
    let each : length ys ≡ part.start + part.room - part.start = c.write-count.ensures.each ∙ ap (λ xs. length (take (part.start + part.room - part.start) (drop part.start xs))) same ∙ long ∙ sym all in
    let places_each : length ps ≡ part.start + part.room - part.start = c.write-count.auto.places ∙ ap (λ xs. length (take (part.start + part.room - part.start) (drop part.start xs))) same_places ∙ places_are ∙ sym all in
    let in_part : part.start + part.room - part.start ≤ part.room = omega (arith, all) in
    let keep = length-written parts (length items) heaps.packed home.group part at items ys (part.start + part.room - part.start) refl in_part each in
    let keep_places = length-written parts (length items) heaps.packed home.group part at places ps (part.start + part.room - part.start) heaps.places_each in_part places_each in
    let now = with_items_is c.self.inside.items (put_mid part.start (part.start + part.room - part.start) c.deref_mut.result.now ys) (omega (arith, ap (λ xs. length (put_mid part.start (part.start + part.room - part.start) xs ys)) same, keep, c.self.inside.items.ok.0)) ∙ ap (λ xs. put_mid part.start (part.start + part.room - part.start) xs ys) same in
    let now_places = with_items_is c.self.inside.places (put_mid part.start (part.start + part.room - part.start) c.deref_mut-2.result.now ps) (omega (arith, ap (λ xs. length (put_mid part.start (part.start + part.room - part.start) xs ps)) same_places, keep_places, c.self.inside.places.ok.0)) ∙ ap (λ xs. put_mid part.start (part.start + part.room - part.start) xs ps) same_places in
    let new_parts = slice_set parts home.group (record { start = part.start; room = part.room; count = c.write-count.result }) in
    let is : placed (length ps) (take c.write-count.result ys) ≡ slice_set (placed (length (take (part.start + part.room - part.start) (drop part.start places))) (take part.count (take (part.start + part.room - part.start) (drop part.start items)))) home.place (Some (at_time 0 c.args.key)) = c.write-count.ensures.put ∙ (λ i. slice_set (placed (length (take (part.start + part.room - part.start) (drop part.start (same_places i)))) (take part.count (take (part.start + part.room - part.start) (drop part.start (same i))))) home.place (Some (c.new-item.ensures i).key)) in
    (λ i. maps_of_slots new_parts (now i))
    ∙ maps_after parts items places heaps home.group part at (part.start + part.room - part.start) all ys ps each places_each c.write-count.result c.write-count.ensures.room home.place (Some (at_time 0 c.args.key)) is
    ∙ ap (λ (hs : List (List (Option Timed))). with_key hs home (Some (at_time 0 c.args.key))) c.self.view_is

pub returns-clause-counted : goal.returns-clause-counted
returns-clause-counted g c =
    let parts = c.self.inside.parts.items in
    let items = c.self.inside.items.items in
    let places = c.self.inside.places.items in
    let heaps = c.self.invariant in
    let home = c.args.home in
    let part = c.index-part.result.now in
    let within : home.group < length parts = omega (arith, c.requires.group_in, ap length c.self.view_is, length-map parts (map_of_slots items)) in
    let at = part_read parts home.group part within c.index-part.ensures in
    let inside = part_in parts items places heaps home.group part at in
    let fits = part_fits parts items places heaps home.group part at in
    let all : part.start + part.room - part.start ≡ part.room = omega arith in
    let same : c.deref_mut.result.now ≡ items = c.deref_mut.ensures.value in
    let same_places : c.deref_mut-2.result.now ≡ places = c.deref_mut-2.ensures.value in
    let long : length (take (part.start + part.room - part.start) (drop part.start items)) ≡ part.room = items_long parts items places heaps home.group part at in
    let places_are : length (take (part.start + part.room - part.start) (drop part.start places)) ≡ part.room = places_long parts items places heaps home.group part at in
    λ k few.
    c.write-count.ensures.counted k (omega (arith, few, ap (λ (hs : List (List (Option Timed))). length (heap_at hs home.group)) c.self.view_is, map_length_is_room parts items places heaps home.group part at, ap (λ xs. length (take (part.start + part.room - part.start) (drop part.start xs))) same_places, places_are))

pub new-item-requires : goal.new-item-requires
new-item-requires g c =
    let parts = c.self.inside.parts.items in
    let items = c.self.inside.items.items in
    let places = c.self.inside.places.items in
    let heaps = c.self.invariant in
    let home = c.args.home in
    let part = c.index-part.result.now in
    let within : home.group < length parts = omega (arith, c.requires.group_in, ap length c.self.view_is, length-map parts (map_of_slots items)) in
    let at = part_read parts home.group part within c.index-part.ensures in
    omega (arith, c.requires.place_in, ap (λ hs. length (heap_at hs home.group)) c.self.view_is, map_length_is_room parts items places heaps home.group part at, part_small parts items places heaps home.group part at)

pub write-count-requires-clause-item : goal.write-count-requires-clause-item
write-count-requires-clause-item g c = ap (λ (x : Item Timed). x.slot) c.new-item.ensures
