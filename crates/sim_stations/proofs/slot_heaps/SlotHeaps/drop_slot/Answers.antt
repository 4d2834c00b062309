use Rattle.std.proofs.Common.{◌≡◌, ◌<◌, ◌≤◌, ◌+◌, ◌-◌, ℕ, List, Option, None, length, take, drop, slice_set, refl, sym, ap, ◌∙◌, subst, arith}
use Rattle.std.proofs.lemmas.List.{length-map, with_items_is}
use Rattle.goal_graph.specs.declared.action.Timed.{Timed}
use Rattle.sim_order.specs.Events.{event_before}
use Rattle.sim_queue.specs.TopHeap.{placed, IsSlotHeap}
use Rattle.sim_queue.specs.Item.{Item}
use Rattle.sim_queue.specs.Groups.{heap_at, with_key}
use Rattle.sim_stations.specs.Parts.{map_of_slots, maps_of_slots}
use Rattle.sim_stations.proofs.InParts.{put_mid, part_read, length-written}
use Rattle.sim_stations.proofs.SlotTable.{slot_heaps_of_equal_lists, part_in, part_fits, places_long, items_long, map_length_is_room, heap_of_part, slots_after, maps_after}
use Rattle.sim_stations.proofs.slot_heaps.SlotHeaps.drop_slot.Goals as goal

pub slice_bounds-erase-end : goal.slice_bounds-erase-end
slice_bounds-erase-end g c =
    let h = c.self.inside in
    let heaps = c.self.invariant in
    let part = c.index-part.result.now in
    let within : c.args.home.group < length h.parts.items = omega (arith, c.requires.group_in, ap length c.self.view_is, length-map h.parts.items (map_of_slots h.items.items)) in
    let inside = heaps.packed.within c.args.home.group part (part_read h.parts.items c.args.home.group part within c.index-part.ensures) in
    omega (arith, inside, ap length c.deref_mut.ensures.value)

pub slice_bounds-erase-end-2 : goal.slice_bounds-erase-end-2
slice_bounds-erase-end-2 g c =
    let h = c.self.inside in
    let heaps = c.self.invariant in
    let part = c.index-part.result.now in
    let within : c.args.home.group < length h.parts.items = omega (arith, c.requires.group_in, ap length c.self.view_is, length-map h.parts.items (map_of_slots h.items.items)) in
    let inside = heaps.packed.within c.args.home.group part (part_read h.parts.items c.args.home.group part within c.index-part.ensures) in
    omega (arith, inside, ap length c.deref_mut-2.ensures.value, heaps.places_each)

pub erase-count-requires-clause-heap : goal.erase-count-requires-clause-heap
erase-count-requires-clause-heap g c =
    let parts = c.self.inside.parts.items in
    let items = c.self.inside.items.items in
    let places = c.self.inside.places.items in
    let heaps = c.self.invariant in
    let home = c.args.home in
    let part = c.index-part.result.now in
    let within : home.group < length parts = omega (arith, c.requires.group_in, ap length c.self.view_is, length-map parts (map_of_slots items)) in
    let at = part_read parts home.group part within c.index-part.ensures in
    let inside = part_in parts items places heaps home.group part at in
    let fits = part_fits parts items places heaps home.group part at in
    let all : part.start + part.room - part.start ≡ part.room = omega arith in
    let same : c.deref_mut.result.now ≡ items = c.deref_mut.ensures.value in
    let same_places : c.deref_mut-2.result.now ≡ places = c.deref_mut-2.ensures.value in
    let long : length (take (part.start + part.room - part.start) (drop part.start items)) ≡ part.room = items_long parts items places heaps home.group part at in
    let places_are : length (take (part.start + part.room - part.start) (drop part.start places)) ≡ part.room = places_long parts items places heaps home.group part at in
    subst (λ (xs : List (Item Timed)). IsSlotHeap event_before (take part.count (take (part.start + part.room - part.start) (drop part.start xs))) (take (part.start + part.room - part.start) (drop part.start c.deref_mut-2.result.now)) (length (take (part.start + part.room - part.start) (drop part.start xs)))) (sym same)
    (subst (λ (xs : List ℕ). IsSlotHeap event_before (take part.count (take (part.start + part.room - part.start) (drop part.start items))) (take (part.start + part.room - part.start) (drop part.start xs)) (length (take (part.start + part.room - part.start) (drop part.start items)))) (sym same_places)
    (heap_of_part parts items places heaps home.group part at))

pub erase-count-requires-clause-slot_in : goal.erase-count-requires-clause-slot_in
erase-count-requires-clause-slot_in g c =
    let parts = c.self.inside.parts.items in
    let items = c.self.inside.items.items in
    let places = c.self.inside.places.items in
    let heaps = c.self.invariant in
    let home = c.args.home in
    let part = c.index-part.result.now in
    let within : home.group < length parts = omega (arith, c.requires.group_in, ap length c.self.view_is, length-map parts (map_of_slots items)) in
    let at = part_read parts home.group part within c.index-part.ensures in
    let same_places : c.deref_mut-2.result.now ≡ places = c.deref_mut-2.ensures.value in
    let places_are : length (take (part.start + part.room - part.start) (drop part.start places)) ≡ part.room = places_long parts items places heaps home.group part at in
    omega (arith, c.requires.place_in, ap (λ hs. length (heap_at hs home.group)) c.self.view_is, map_length_is_room parts items places heaps home.group part at, ap (λ xs. length (take (part.start + part.room - part.start) (drop part.start xs))) same_places, places_are)

pub erase-count-requires-clause-room : goal.erase-count-requires-clause-room
erase-count-requires-clause-room g c =
    let parts = c.self.inside.parts.items in
    let items = c.self.inside.items.items in
    let places = c.self.inside.places.items in
    let heaps = c.self.invariant in
    let home = c.args.home in
    let part = c.index-part.result.now in
    let within : home.group < length parts = omega (arith, c.requires.group_in, ap length c.self.view_is, length-map parts (map_of_slots items)) in
    let at = part_read parts home.group part within c.index-part.ensures in
    let inside = part_in parts items places heaps home.group part at in
    let fits = part_fits parts items places heaps home.group part at in
    let all : part.start + part.room - part.start ≡ part.room = omega arith in
    let same : c.deref_mut.result.now ≡ items = c.deref_mut.ensures.value in
    let same_places : c.deref_mut-2.result.now ≡ places = c.deref_mut-2.ensures.value in
    let long : length (take (part.start + part.room - part.start) (drop part.start items)) ≡ part.room = items_long parts items places heaps home.group part at in
    let places_are : length (take (part.start + part.room - part.start) (drop part.start places)) ≡ part.room = places_long parts items places heaps home.group part at in
    omega (arith, fits, ap (λ xs. length (take (part.start + part.room - part.start) (drop part.start xs))) same, long)

pub invariant_of-self : goal.invariant_of-self
invariant_of-self g c =
    let parts = c.self.inside.parts.items in
    let items = c.self.inside.items.items in
    let places = c.self.inside.places.items in
    let heaps = c.self.invariant in
    let home = c.args.home in
    let part = c.index-part.result.now in
    let within : home.group < length parts = omega (arith, c.requires.group_in, ap length c.self.view_is, length-map parts (map_of_slots items)) in
    let at = part_read parts home.group part within c.index-part.ensures in
    let inside = part_in parts items places heaps home.group part at in
    let fits = part_fits parts items places heaps home.group part at in
    let all : part.start + part.room - part.start ≡ part.room = omega arith in
    let same : c.deref_mut.result.now ≡ items = c.deref_mut.ensures.value in
    let same_places : c.deref_mut-2.result.now ≡ places = c.deref_mut-2.ensures.value in
    let long : length (take (part.start + part.room - part.start) (drop part.start items)) ≡ part.room = items_long parts items places heaps home.group part at in
    let places_are : length (take (part.start + part.room - part.start) (drop part.start places)) ≡ part.room = places_long parts items places heaps home.group part at in
    let ys = c.erase-count.new.items in
    let ps = c.erase-count.new.places in
    let each : length ys ≡ part.start + part.room - part.start = c.erase-count.ensures.each ∙ ap (λ xs. length (take (part.start + part.room - part.start) (drop part.start xs))) same ∙ long ∙ sym all in
    let places_each : length ps ≡ part.start + part.room - part.start = c.erase-count.auto.places ∙ ap (λ xs. length (take (part.start + part.room - part.start) (drop part.start xs))) same_places ∙ places_are ∙ sym all in
    let in_part : part.start + part.room - part.start ≤ part.room = omega (arith, all) in
    let keep = length-written parts (length items) heaps.packed home.group part at items ys (part.start + part.room - part.start) refl in_part each in
    let keep_places = length-written parts (length items) heaps.packed home.group part at places ps (part.start + part.room - part.start) heaps.places_each in_part places_each in
    let now = with_items_is c.self.inside.items (put_mid part.start (part.start + part.room - part.start) c.deref_mut.result.now ys) (omega (arith, ap (λ xs. length (put_mid part.start (part.start + part.room - part.start) xs ys)) same, keep, c.self.inside.items.ok.0)) ∙ ap (λ xs. put_mid part.start (part.start + part.room - part.start) xs ys) same in
    let now_places = with_items_is c.self.inside.places (put_mid part.start (part.start + part.room - part.start) c.deref_mut-2.result.now ps) (omega (arith, ap (λ xs. length (put_mid part.start (part.start + part.room - part.start) xs ps)) same_places, keep_places, c.self.inside.places.ok.0)) ∙ ap (λ xs. put_mid part.start (part.start + part.room - part.start) xs ps) same_places in
    let new_parts = slice_set parts home.group (record { start = part.start; room = part.room; count = c.erase-count.result }) in
    slot_heaps_of_equal_lists new_parts now now_places (slots_after parts items places heaps home.group part at (part.start + part.room - part.start) all ys ps each places_each c.erase-count.result c.erase-count.ensures.room c.erase-count.ensures.heap)

pub returns-clause-dropped : goal.returns-clause-dropped
returns-clause-dropped g c =
    let parts = c.self.inside.parts.items in
    let items = c.self.inside.items.items in
    let places = c.self.inside.places.items in
    let heaps = c.self.invariant in
    let home = c.args.home in
    let part = c.index-part.result.now in
    let within : home.group < length parts = omega (arith, c.requires.group_in, ap length c.self.view_is, length-map parts (map_of_slots items)) in
    let at = part_read parts home.group part within c.index-part.ensures in
    let inside = part_in parts items places heaps home.group part at in
    let fits = part_fits parts items places heaps home.group part at in
    let all : part.start + part.room - part.start ≡ part.room = omega arith in
    let same : c.deref_mut.result.now ≡ items = c.deref_mut.ensures.value in
    let same_places : c.deref_mut-2.result.now ≡ places = c.deref_mut-2.ensures.value in
    let long : length (take (part.start + part.room - part.start) (drop part.start items)) ≡ part.room = items_long parts items places heaps home.group part at in
    let places_are : length (take (part.start + part.room - part.start) (drop part.start places)) ≡ part.room = places_long parts items places heaps home.group part at in
    let ys = c.erase-count.new.items in
    let ps = c.erase-count.new.places in
    let each : length ys ≡ part.start + part.room - part.start = c.erase-count.ensures.each ∙ ap (λ xs. length (take (part.start + part.room - part.start) (drop part.start xs))) same ∙ long ∙ sym all in
    let places_each : length ps ≡ part.start + part.room - part.start = c.erase-count.auto.places ∙ ap (λ xs. length (take (part.start + part.room - part.start) (drop part.start xs))) same_places ∙ places_are ∙ sym all in
    let in_part : part.start + part.room - part.start ≤ part.room = omega (arith, all) in
    let keep = length-written parts (length items) heaps.packed home.group part at items ys (part.start + part.room - part.start) refl in_part each in
    let keep_places = length-written parts (length items) heaps.packed home.group part at places ps (part.start + part.room - part.start) heaps.places_each in_part places_each in
    let now = with_items_is c.self.inside.items (put_mid part.start (part.start + part.room - part.start) c.deref_mut.result.now ys) (omega (arith, ap (λ xs. length (put_mid part.start (part.start + part.room - part.start) xs ys)) same, keep, c.self.inside.items.ok.0)) ∙ ap (λ xs. put_mid part.start (part.start + part.room - part.start) xs ys) same in
    let now_places = with_items_is c.self.inside.places (put_mid part.start (part.start + part.room - part.start) c.deref_mut-2.result.now ps) (omega (arith, ap (λ xs. length (put_mid part.start (part.start + part.room - part.start) xs ps)) same_places, keep_places, c.self.inside.places.ok.0)) ∙ ap (λ xs. put_mid part.start (part.start + part.room - part.start) xs ps) same_places in
    let new_parts = slice_set parts home.group (record { start = part.start; room = part.room; count = c.erase-count.result }) in
    let is : placed (length ps) (take c.erase-count.result ys) ≡ slice_set (placed (length (take (part.start + part.room - part.start) (drop part.start places))) (take part.count (take (part.start + part.room - part.start) (drop part.start items)))) home.place None = c.erase-count.ensures.dropped ∙ (λ i. slice_set (placed (length (take (part.start + part.room - part.start) (drop part.start (same_places i)))) (take part.count (take (part.start + part.room - part.start) (drop part.start (same i))))) home.place None) in
    (λ i. maps_of_slots new_parts (now i))
    ∙ maps_after parts items places heaps home.group part at (part.start + part.room - part.start) all ys ps each places_each c.erase-count.result c.erase-count.ensures.room home.place None is
    ∙ ap (λ (hs : List (List (Option Timed))). with_key hs home None) c.self.view_is

pub returns-clause-counted : goal.returns-clause-counted
returns-clause-counted g c =
    let parts = c.self.inside.parts.items in
    let items = c.self.inside.items.items in
    let places = c.self.inside.places.items in
    let heaps = c.self.invariant in
    let home = c.args.home in
    let part = c.index-part.result.now in
    let within : home.group < length parts = omega (arith, c.requires.group_in, ap length c.self.view_is, length-map parts (map_of_slots items)) in
    let at = part_read parts home.group part within c.index-part.ensures in
    let inside = part_in parts items places heaps home.group part at in
    let fits = part_fits parts items places heaps home.group part at in
    let all : part.start + part.room - part.start ≡ part.room = omega arith in
    let same : c.deref_mut.result.now ≡ items = c.deref_mut.ensures.value in
    let same_places : c.deref_mut-2.result.now ≡ places = c.deref_mut-2.ensures.value in
    let long : length (take (part.start + part.room - part.start) (drop part.start items)) ≡ part.room = items_long parts items places heaps home.group part at in
    let places_are : length (take (part.start + part.room - part.start) (drop part.start places)) ≡ part.room = places_long parts items places heaps home.group part at in
    λ k few.
    c.erase-count.ensures.counted k (omega (arith, few, ap (λ (hs : List (List (Option Timed))). length (heap_at hs home.group)) c.self.view_is, map_length_is_room parts items places heaps home.group part at, ap (λ xs. length (take (part.start + part.room - part.start) (drop part.start xs))) same_places, places_are))
