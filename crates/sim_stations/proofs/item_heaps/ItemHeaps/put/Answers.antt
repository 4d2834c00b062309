use Rattle.std.proofs.Common.{◌≡◌, ◌<◌, ◌≤◌, ◌+◌, ◌-◌, List, Some, length, take, drop, slice_index, slice_set, count_by, is_some, sym, ap, ◌∙◌, subst, arith}
use Rattle.std.proofs.lemmas.List.{length-map, length-drop, length-take-le, take_all, with_items_is}
use Rattle.goal_graph.specs.declared.action.Timed.{Timed}
use Rattle.sim_order.specs.Events.{event_before}
use Rattle.sim_queue.specs.Item.{Item, at_time}
use Rattle.sim_queue.specs.Map.{key_at}
use Rattle.sim_queue.specs.TopHeap.{placed, IsTopHeap}
use Rattle.sim_queue.specs.Groups.{heap_at, with_key}
use Rattle.sim_stations.specs.AtSlots.{at_home}
use Rattle.sim_stations.specs.Parts.{Roomed, all_but_last, map_of_items, roomed, AreItemHeaps}
use Rattle.sim_stations.proofs.InParts.{put_mid, part_read}
use Rattle.sim_stations.proofs.ItemTable.{part_in, heap_of_part, map_of_part, map_length_is_slots, room_of_its_part, fewer_keys_fewer_items, items_before_free_place, items_length_unchanged, items_after, roomed_after}
use Rattle.sim_stations.proofs.item_heaps.ItemHeaps.put.Goals as goal

pub overflow_add-count : goal.overflow_add-count
overflow_add-count g c =
    let slots = c.self.inside.slots in
    let parts = c.self.inside.parts.items in
    let items = c.self.inside.items.items in
    let heaps = c.self.invariant in
    let group = c.args.group in
    let part = c.index-part.result.now in
    let within : group < length parts = omega (arith, c.requires.group_in, ap (λ (r : Roomed Timed). length r.maps) c.self.view_is, length-map parts (map_of_items slots items)) in
    let at = part_read parts group part within c.index-part.ensures in
    let room = fewer_keys_fewer_items slots parts items heaps group part at (subst (λ (r : Roomed Timed). count_by is_some (heap_at r.maps group) < slice_index r.rooms group) (sym c.self.view_is) c.requires.room) in
    omega (arith, room)

pub slice_bounds-enter-end : goal.slice_bounds-enter-end
slice_bounds-enter-end g c =
    let slots = c.self.inside.slots in
    let parts = c.self.inside.parts.items in
    let items = c.self.inside.items.items in
    let heaps = c.self.invariant in
    let group = c.args.group in
    let part = c.index-part.result.now in
    let within : group < length parts = omega (arith, c.requires.group_in, ap (λ (r : Roomed Timed). length r.maps) c.self.view_is, length-map parts (map_of_items slots items)) in
    let at = part_read parts group part within c.index-part.ensures in
    let same : c.deref_mut.result.now ≡ items = c.deref_mut.ensures.value in
    let room = fewer_keys_fewer_items slots parts items heaps group part at (subst (λ (r : Roomed Timed). count_by is_some (heap_at r.maps group) < slice_index r.rooms group) (sym c.self.view_is) c.requires.room) in
    omega (arith, room, part_in slots parts items heaps group part at, ap length same, c.self.inside.items.ok.0)

pub enter-requires-clause-some : goal.enter-requires-clause-some
enter-requires-clause-some g c =
    let slots = c.self.inside.slots in
    let parts = c.self.inside.parts.items in
    let items = c.self.inside.items.items in
    let heaps = c.self.invariant in
    let group = c.args.group in
    let part = c.index-part.result.now in
    let within : group < length parts = omega (arith, c.requires.group_in, ap (λ (r : Roomed Timed). length r.maps) c.self.view_is, length-map parts (map_of_items slots items)) in
    let at = part_read parts group part within c.index-part.ensures in
    let same : c.deref_mut.result.now ≡ items = c.deref_mut.ensures.value in
    let room = fewer_keys_fewer_items slots parts items heaps group part at (subst (λ (r : Roomed Timed). count_by is_some (heap_at r.maps group) < slice_index r.rooms group) (sym c.self.view_is) c.requires.room) in
    let n = part.start + (part.count + 1) - part.start in
    let many : n ≡ part.count + 1 = omega arith in
    let long_slice : length (take n (drop part.start items)) ≡ n = length-take-le n (drop part.start items) (omega (arith, many, room, part_in slots parts items heaps group part at, length-drop part.start items)) in
    omega (arith, ap (λ xs. length (take n (drop part.start xs))) same, long_slice, many)

pub enter-requires-clause-heap : goal.enter-requires-clause-heap
enter-requires-clause-heap g c =
    let slots = c.self.inside.slots in
    let parts = c.self.inside.parts.items in
    let items = c.self.inside.items.items in
    let heaps = c.self.invariant in
    let group = c.args.group in
    let part = c.index-part.result.now in
    let within : group < length parts = omega (arith, c.requires.group_in, ap (λ (r : Roomed Timed). length r.maps) c.self.view_is, length-map parts (map_of_items slots items)) in
    let at = part_read parts group part within c.index-part.ensures in
    let same : c.deref_mut.result.now ≡ items = c.deref_mut.ensures.value in
    let room = fewer_keys_fewer_items slots parts items heaps group part at (subst (λ (r : Roomed Timed). count_by is_some (heap_at r.maps group) < slice_index r.rooms group) (sym c.self.view_is) c.requires.room) in
    let n = part.start + (part.count + 1) - part.start in
    let many : n ≡ part.count + 1 = omega arith in
    subst (λ (xs : List (Item Timed)). IsTopHeap event_before (all_but_last (take n (drop part.start xs))) slots slots) (sym same)
    (subst (λ (xs : List (Item Timed)). IsTopHeap event_before xs slots slots) (sym (items_before_free_place slots parts items heaps group part at room)) (heap_of_part slots parts items heaps group part at))

pub new-requires : goal.new-requires
new-requires g c =
    let slots = c.self.inside.slots in
    let parts = c.self.inside.parts.items in
    let items = c.self.inside.items.items in
    let heaps = c.self.invariant in
    let group = c.args.group in
    let part = c.index-part.result.now in
    let within : group < length parts = omega (arith, c.requires.group_in, ap (λ (r : Roomed Timed). length r.maps) c.self.view_is, length-map parts (map_of_items slots items)) in
    let at = part_read parts group part within c.index-part.ensures in
    omega (arith, c.requires.slot_in, ap (λ (r : Roomed Timed). length (heap_at r.maps group)) c.self.view_is, map_length_is_slots slots parts items heaps group part at, (heap_of_part slots parts items heaps group part at).few)

pub enter-requires-clause-slot_in : goal.enter-requires-clause-slot_in
enter-requires-clause-slot_in g c =
    let slots = c.self.inside.slots in
    let parts = c.self.inside.parts.items in
    let items = c.self.inside.items.items in
    let heaps = c.self.invariant in
    let group = c.args.group in
    let part = c.index-part.result.now in
    let within : group < length parts = omega (arith, c.requires.group_in, ap (λ (r : Roomed Timed). length r.maps) c.self.view_is, length-map parts (map_of_items slots items)) in
    let at = part_read parts group part within c.index-part.ensures in
    omega (arith, c.requires.slot_in, ap (λ (r : Roomed Timed). length (heap_at r.maps group)) c.self.view_is, map_length_is_slots slots parts items heaps group part at, ap (λ (x : Item Timed). x.slot) c.new.ensures)

pub enter-requires-clause-free : goal.enter-requires-clause-free
enter-requires-clause-free g c =
    let slots = c.self.inside.slots in
    let parts = c.self.inside.parts.items in
    let items = c.self.inside.items.items in
    let heaps = c.self.invariant in
    let group = c.args.group in
    let part = c.index-part.result.now in
    let within : group < length parts = omega (arith, c.requires.group_in, ap (λ (r : Roomed Timed). length r.maps) c.self.view_is, length-map parts (map_of_items slots items)) in
    let at = part_read parts group part within c.index-part.ensures in
    let same : c.deref_mut.result.now ≡ items = c.deref_mut.ensures.value in
    let room = fewer_keys_fewer_items slots parts items heaps group part at (subst (λ (r : Roomed Timed). count_by is_some (heap_at r.maps group) < slice_index r.rooms group) (sym c.self.view_is) c.requires.room) in
    let n = part.start + (part.count + 1) - part.start in
    let many : n ≡ part.count + 1 = omega arith in
    ap (λ (x : Item Timed). key_at (placed slots (all_but_last (take n (drop part.start c.deref_mut.result.now)))) x.slot) c.new.ensures
    ∙ ap (λ (xs : List (Item Timed)). key_at (placed slots (all_but_last (take n (drop part.start xs)))) c.args.slot) same
    ∙ ap (λ (xs : List (Item Timed)). key_at (placed slots xs) c.args.slot) (items_before_free_place slots parts items heaps group part at room)
    ∙ ap (λ h. key_at h c.args.slot) (sym (map_of_part slots parts items heaps group part at))
    ∙ ap (λ (r : Roomed Timed). key_at (heap_at r.maps group) c.args.slot) c.self.view_is
    ∙ c.requires.free

pub invariant_of-self : goal.invariant_of-self
invariant_of-self g c =
    let slots = c.self.inside.slots in
    let parts = c.self.inside.parts.items in
    let items = c.self.inside.items.items in
    let heaps = c.self.invariant in
    let group = c.args.group in
    let part = c.index-part.result.now in
    let within : group < length parts = omega (arith, c.requires.group_in, ap (λ (r : Roomed Timed). length r.maps) c.self.view_is, length-map parts (map_of_items slots items)) in
    let at = part_read parts group part within c.index-part.ensures in
    let same : c.deref_mut.result.now ≡ items = c.deref_mut.ensures.value in
    let room = fewer_keys_fewer_items slots parts items heaps group part at (subst (λ (r : Roomed Timed). count_by is_some (heap_at r.maps group) < slice_index r.rooms group) (sym c.self.view_is) c.requires.room) in
    let n = part.start + (part.count + 1) - part.start in
    let many : n ≡ part.count + 1 = omega arith in
    let long_slice : length (take n (drop part.start items)) ≡ n = length-take-le n (drop part.start items) (omega (arith, many, room, part_in slots parts items heaps group part at, length-drop part.start items)) in
    let ys = c.enter.new.items in
    let in_part : n ≤ part.room = omega (arith, many, room) in
    let each : length ys ≡ n = c.enter.ensures.each ∙ ap (λ xs. length (take n (drop part.start xs))) same ∙ long_slice in
    let few : part.count + 1 ≤ n = omega (arith, many) in
    let whole : take (part.count + 1) ys ≡ ys = take_all (part.count + 1) ys (omega (arith, each, many)) in
    let now = with_items_is c.self.inside.items (put_mid part.start n c.deref_mut.result.now ys) (omega (arith, ap (λ xs. length (put_mid part.start n xs ys)) same, items_length_unchanged slots parts items heaps group part at ys n in_part each (part.count + 1) few, c.self.inside.items.ok.0)) ∙ ap (λ xs. put_mid part.start n xs ys) same in
    let new_parts = slice_set parts group (record { start = part.start; room = part.room; count = part.count + 1 }) in
    subst (AreItemHeaps event_before slots new_parts) (sym now)
    (items_after slots parts items heaps group part at ys n in_part each (part.count + 1) few (subst (λ (xs : List (Item Timed)). IsTopHeap event_before xs slots slots) (sym whole) c.enter.ensures.heap))

pub returns-clause-put : goal.returns-clause-put
returns-clause-put g c =
    let slots = c.self.inside.slots in
    let parts = c.self.inside.parts.items in
    let items = c.self.inside.items.items in
    let heaps = c.self.invariant in
    let group = c.args.group in
    let part = c.index-part.result.now in
    let within : group < length parts = omega (arith, c.requires.group_in, ap (λ (r : Roomed Timed). length r.maps) c.self.view_is, length-map parts (map_of_items slots items)) in
    let at = part_read parts group part within c.index-part.ensures in
    let same : c.deref_mut.result.now ≡ items = c.deref_mut.ensures.value in
    let room = fewer_keys_fewer_items slots parts items heaps group part at (subst (λ (r : Roomed Timed). count_by is_some (heap_at r.maps group) < slice_index r.rooms group) (sym c.self.view_is) c.requires.room) in
    let n = part.start + (part.count + 1) - part.start in
    let many : n ≡ part.count + 1 = omega arith in
    let long_slice : length (take n (drop part.start items)) ≡ n = length-take-le n (drop part.start items) (omega (arith, many, room, part_in slots parts items heaps group part at, length-drop part.start items)) in
    let ys = c.enter.new.items in
    let in_part : n ≤ part.room = omega (arith, many, room) in
    let each : length ys ≡ n = c.enter.ensures.each ∙ ap (λ xs. length (take n (drop part.start xs))) same ∙ long_slice in
    let few : part.count + 1 ≤ n = omega (arith, many) in
    let whole : take (part.count + 1) ys ≡ ys = take_all (part.count + 1) ys (omega (arith, each, many)) in
    let now = with_items_is c.self.inside.items (put_mid part.start n c.deref_mut.result.now ys) (omega (arith, ap (λ xs. length (put_mid part.start n xs ys)) same, items_length_unchanged slots parts items heaps group part at ys n in_part each (part.count + 1) few, c.self.inside.items.ok.0)) ∙ ap (λ xs. put_mid part.start n xs ys) same in
    let new_parts = slice_set parts group (record { start = part.start; room = part.room; count = part.count + 1 }) in
    let free = items_before_free_place slots parts items heaps group part at room in
    let map_now = ap (placed slots) whole
    ∙ c.enter.ensures.put
    ∙ ap (λ (x : Item Timed). slice_set (placed slots (all_but_last (take n (drop part.start c.deref_mut.result.now)))) x.slot (Some x.key)) c.new.ensures
    ∙ ap (λ xs. slice_set (placed slots (all_but_last (take n (drop part.start xs)))) c.args.slot (Some (at_time 0 c.args.key))) same
    ∙ ap (λ xs. slice_set (placed slots xs) c.args.slot (Some (at_time 0 c.args.key))) free in
    ap (roomed slots new_parts) now
    ∙ roomed_after slots parts items heaps group part at ys n in_part each (part.count + 1) few c.args.slot (Some (at_time 0 c.args.key)) map_now
    ∙ ap (λ (r : Roomed Timed). record { maps = with_key r.maps (at_home group c.args.slot) (Some (at_time 0 c.args.key)); rooms = r.rooms }) c.self.view_is

pub returns-clause-counted : goal.returns-clause-counted
returns-clause-counted g c =
    let slots = c.self.inside.slots in
    let parts = c.self.inside.parts.items in
    let items = c.self.inside.items.items in
    let heaps = c.self.invariant in
    let group = c.args.group in
    let part = c.index-part.result.now in
    let within : group < length parts = omega (arith, c.requires.group_in, ap (λ (r : Roomed Timed). length r.maps) c.self.view_is, length-map parts (map_of_items slots items)) in
    let at = part_read parts group part within c.index-part.ensures in
    let same : c.deref_mut.result.now ≡ items = c.deref_mut.ensures.value in
    let room = fewer_keys_fewer_items slots parts items heaps group part at (subst (λ (r : Roomed Timed). count_by is_some (heap_at r.maps group) < slice_index r.rooms group) (sym c.self.view_is) c.requires.room) in
    let n = part.start + (part.count + 1) - part.start in
    let many : n ≡ part.count + 1 = omega arith in
    let long_slice : length (take n (drop part.start items)) ≡ n = length-take-le n (drop part.start items) (omega (arith, many, room, part_in slots parts items heaps group part at, length-drop part.start items)) in
    let bound = ap (λ (r : Roomed Timed). slice_index r.rooms group) c.self.view_is in
    λ k few.
    let counted = c.enter.ensures.counted k (omega (arith, few, bound, room_of_its_part slots parts items heaps group part at, room, many, long_slice, ap (λ xs. length (take n (drop part.start xs))) same)) in
    omega (arith, counted)
