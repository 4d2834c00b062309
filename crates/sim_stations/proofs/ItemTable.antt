-- Heaps of items in one table, one of which is written.
use Rattle.std.proofs.Common.{◌≡◌, ◌≢◌, ◌⊎◌, ◌<◌, ◌≤◌, ◌+◌, ◌-◌, [], ℕ, List, length, map, set, take, drop, slice_get, slice_index, slice_set, Option, Some, count_by, is_some, refl, sym, ap, ◌∙◌, subst, arith, inl, inr}
use Rattle.std.proofs.Math.Seq.{map-set_same}
use Rattle.std.proofs.lemmas.List.{get_or-map, length-drop, length-take-le, take-take}
use Rattle.std.proofs.lemmas.Option.{slice_get_within, get_or_from_slice_get}
use Rattle.goal_graph.specs.declared.action.Timed.{Timed}
use Rattle.sim_order.specs.Events.{event_before}
use Rattle.sim_order.specs.EventLaws.{event_laws}
use Rattle.sim_queue.specs.Item.{Item}
use Rattle.sim_queue.specs.Map.{IsEmptyMap, IsLeast}
use Rattle.sim_queue.specs.TopHeap.{placed, IsTopHeap}
use Rattle.sim_queue.proofs.ForCallers.{length-placed, empty_items, top_is_least}
use Rattle.sim_stations.specs.declared.parts.Part.{Part}
use Rattle.sim_queue.specs.Groups.{heap_at, with_key}
use Rattle.sim_stations.specs.AtSlots.{at_home}
use Rattle.sim_stations.specs.Parts.{room_of, keyed_of, all_but_last, ArePacked, map_of_items, maps_of_items, roomed, AreItemHeaps}
use Rattle.sim_stations.proofs.InParts.{put_mid, part_of_written, length-keyed, first_keyed, map_written, part_with_count, part_with_new_count, packed_after, length-written, keyed_elsewhere}
use Rattle.sim_stations.proofs.Rooms.{items_no_more_than_keys}

module _ (slots : ℕ) (parts : List Part) (items : List (Item Timed)) (heaps : AreItemHeaps event_before slots parts items) (group : ℕ) (part : Part) (at : slice_get parts group ≡ Some part) where
  -- the properties of its part
  pub part_in : part.start + part.room ≤ length items
  part_in = heaps.packed.within group part at

  pub part_fits : part.count ≤ part.room
  part_fits = heaps.packed.fits group part at

  pub heap_of_part : IsTopHeap event_before (keyed_of items part) slots slots
  heap_of_part = heaps.heap group part at

  pub count_of_part : length (keyed_of items part) ≡ part.count
  count_of_part = length-keyed items part (omega (arith, part_in, part_fits))

  pub map_of_part : heap_at (maps_of_items slots parts items) group ≡ map_of_items slots items part
  map_of_part =
      get_or-map (map_of_items slots items) parts group part [] (slice_get_within parts group part at) ∙ ap (map_of_items slots items) (get_or_from_slice_get parts group part part at)

  pub map_length_is_slots : length (heap_at (maps_of_items slots parts items) group) ≡ slots
  map_length_is_slots = ap length map_of_part ∙ length-placed slots (keyed_of items part)

  pub room_of_its_part : slice_index (map room_of parts) group ≡ part.room
  room_of_its_part =
      get_or-map room_of parts group part 0 (slice_get_within parts group part at) ∙ ap room_of (get_or_from_slice_get parts group part part at)

  -- fewer keys than its room are fewer items than its places
  pub fewer_keys_fewer_items : count_by is_some (heap_at (maps_of_items slots parts items) group) < slice_index (map room_of parts) group → part.count < part.room
  fewer_keys_fewer_items room =
      omega (arith, room, room_of_its_part, count_of_part, items_no_more_than_keys slots (keyed_of items part) heap_of_part.apart, ap (count_by is_some) map_of_part)

  -- its items, before one more place
  pub items_before_free_place : part.count < part.room → all_but_last (take (part.start + (part.count + 1) - part.start) (drop part.start items)) ≡ keyed_of items part
  items_before_free_place room =
      let rest = drop part.start items in
      let more : part.start + (part.count + 1) - part.start ≡ part.count + 1 = omega arith in
      let many : part.start + part.count - part.start ≡ part.count = omega arith in
      let long : length (take (part.count + 1) rest) ≡ part.count + 1 = length-take-le (part.count + 1) rest (omega (arith, room, part_in, length-drop part.start items)) in
      ap (λ n. all_but_last (take n rest)) more
      ∙ ap (λ n. take n (take (part.count + 1) rest)) (omega (arith, long))
      ∙ take-take part.count (part.count + 1) rest (omega arith)
      ∙ ap (λ n. take n rest) (sym many)

  -- its least
  pub none_of_part : part.count ≡ 0 → IsEmptyMap (heap_at (maps_of_items slots parts items) group)
  none_of_part none =
      subst IsEmptyMap (sym map_of_part) (empty_items event_before event_laws slots (keyed_of items part) heap_of_part.apart heap_of_part.ordered (omega (arith, count_of_part, none)))

  pub least_of_part : (top : Item Timed) → 0 < part.count → slice_get items part.start ≡ Some top → IsLeast event_before (heap_at (maps_of_items slots parts items) group) top.slot top.key
  least_of_part top some e =
      subst (λ h. IsLeast event_before h top.slot top.key) (sym map_of_part)
      (top_is_least event_before event_laws slots (keyed_of items part) heap_of_part.apart heap_of_part.ordered top (first_keyed items part top (omega (arith, part_in, part_fits)) some e))

  -- the first places are written, and this number of them have an item
  module _ (ys : List (Item Timed)) (k : ℕ) (in_part : k ≤ part.room) (each : length ys ≡ k) (count : ℕ) (few : count ≤ k) where
    abbrev pub new_items : List (Item Timed)
    new_items = put_mid part.start k items ys

    abbrev written_part : Part
    written_part = part_with_count parts (length items) heaps.packed group part at count

    abbrev pub new_parts : List Part
    new_parts = set parts group written_part

    pub items_length_unchanged : length new_items ≡ length items
    items_length_unchanged = length-written parts (length items) heaps.packed group part at items ys k refl in_part each

    items_of_written_part : keyed_of new_items written_part ≡ take count ys
    items_of_written_part = part_of_written part.start k items ys (omega (arith, part_in)) count (omega (arith, few, each))

    other_parts_unchanged : (other : ℕ) (q : Part) → slice_get parts other ≡ Some q → other ≢ group → keyed_of new_items q ≡ keyed_of items q
    other_parts_unchanged = keyed_elsewhere parts (length items) heaps.packed group part at items ys k refl in_part each

    pub items_after : IsTopHeap event_before (take count ys) slots slots → AreItemHeaps event_before slots new_parts new_items
    items_after heap = record {
      packed = subst (λ (n : ℕ). ArePacked new_parts n) (sym items_length_unchanged) (packed_after parts (length items) heaps.packed group part at count (omega (arith, few, in_part)));
      heap = λ other q e. there other q (part_with_new_count parts (length items) heaps.packed group part at count other q e);
    }
      where
        there : (other : ℕ) (q : Part) → ((other ≡ group) × (written_part ≡ q)) ⊎ ((other ≢ group) × (slice_get parts other ≡ Some q)) → IsTopHeap event_before (keyed_of new_items q) slots slots
        there other q (inl s) =
            subst (λ (u : Part). IsTopHeap event_before (keyed_of new_items u) slots slots) s.1 (subst (λ (xs : List (Item Timed)). IsTopHeap event_before xs slots slots) (sym items_of_written_part) heap)
        there other q (inr s) =
            subst (λ (xs : List (Item Timed)). IsTopHeap event_before xs slots slots) (sym (other_parts_unchanged other q s.1 s.0)) (heaps.heap other q s.1)

    maps_after : (slot : ℕ) (value : Option Timed) → placed slots (take count ys) ≡ slice_set (map_of_items slots items part) slot value → maps_of_items slots new_parts new_items ≡ with_key (maps_of_items slots parts items) (at_home group slot) value
    maps_after slot value is =
        map_written (map_of_items slots items) (map_of_items slots new_items) parts group written_part (λ other q e n. ap (placed slots) (other_parts_unchanged other q e n))
        ∙ ap (set (maps_of_items slots parts items) group) (ap (placed slots) items_of_written_part ∙ is ∙ ap (λ h. slice_set h slot value) (sym map_of_part))

    same_rooms : map room_of new_parts ≡ map room_of parts
    same_rooms =
        map-set_same room_of parts group written_part part (ap room_of (sym (get_or_from_slice_get parts group part part at)))

    pub roomed_after : (slot : ℕ) (value : Option Timed) → placed slots (take count ys) ≡ slice_set (map_of_items slots items part) slot value → roomed slots new_parts new_items ≡ record { maps = with_key (maps_of_items slots parts items) (at_home group slot) value; rooms = map room_of parts }
    roomed_after slot value is i = record { maps = maps_after slot value is i; rooms = same_rooms i }
