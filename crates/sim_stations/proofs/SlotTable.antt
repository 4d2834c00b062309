-- Heaps whose slots know their places in one table, one of which is written.
use Rattle.std.proofs.Common.{◌≡◌, ◌≢◌, ◌⊎◌, ◌<◌, ◌≤◌, ◌+◌, ℕ, List, [], length, set, take, slice_get, slice_set, Option, Some, refl, sym, ap, ◌∙◌, subst, arith, inl, inr}
use Rattle.std.proofs.lemmas.List.{take_all, get_or-map}
use Rattle.std.proofs.lemmas.Option.{slice_get_within, get_or_from_slice_get}
use Rattle.goal_graph.specs.declared.action.Timed.{Timed}
use Rattle.sim_order.specs.Events.{event_before}
use Rattle.sim_order.specs.EventLaws.{event_laws}
use Rattle.sim_queue.specs.declared.heap_item.TheConstants.{MAX_SLOTS}
use Rattle.sim_queue.specs.Item.{Item}
use Rattle.sim_queue.specs.Map.{IsEmptyMap, IsLeast}
use Rattle.sim_queue.specs.TopHeap.{placed, AreApart, IsSlotHeap}
use Rattle.sim_queue.proofs.ForCallers.{empty_items, length-placed, top_is_least}
use Rattle.sim_stations.specs.declared.parts.Part.{Part}
use Rattle.sim_queue.specs.Groups.{heap_at, with_key}
use Rattle.sim_stations.specs.Parts.{places_of, keyed_of, map_of_slots, maps_of_slots, ArePacked, AreSlotHeaps}
use Rattle.sim_stations.proofs.InParts.{put_mid, part_of_written, length-keyed, first_keyed, length-places, keyed_in_places, map_written, part_with_count, part_with_new_count, packed_after, length-written, keyed_elsewhere, places_elsewhere}

-- the same heaps, from other forms of their lists
pub slot_heaps_of_equal_lists : (parts : List Part) {a b : List (Item Timed)} {c d : List ℕ} → a ≡ b → c ≡ d → AreSlotHeaps event_before parts b d → AreSlotHeaps event_before parts a c
slot_heaps_of_equal_lists parts {a} {b} {c} {d} p q heaps =
    subst (λ (xs : List (Item Timed)). AreSlotHeaps event_before parts xs c) (sym p) (subst (AreSlotHeaps event_before parts b) (sym q) heaps)

module _ (parts : List Part) (items : List (Item Timed)) (places : List ℕ) (heaps : AreSlotHeaps event_before parts items places) (group : ℕ) (part : Part) (at : slice_get parts group ≡ Some part) where
  -- the properties of its part
  pub part_in : part.start + part.room ≤ length items
  part_in = heaps.packed.within group part at

  pub part_fits : part.count ≤ part.room
  part_fits = heaps.packed.fits group part at

  pub part_small : part.room ≤ MAX_SLOTS
  part_small = heaps.small group part at

  pub map_of_part : heap_at (maps_of_slots parts items) group ≡ map_of_slots items part
  map_of_part =
      get_or-map (map_of_slots items) parts group part [] (slice_get_within parts group part at) ∙ ap (map_of_slots items) (get_or_from_slice_get parts group part part at)

  pub places_long : length (places_of places part) ≡ part.room
  places_long = length-places places part (omega (arith, part_in, heaps.places_each))

  pub items_long : length (places_of items part) ≡ part.room
  items_long = length-places items part part_in

  pub map_length_is_room : length (heap_at (maps_of_slots parts items) group) ≡ part.room
  map_length_is_room = ap length map_of_part ∙ length-placed part.room (keyed_of items part)

  pub heap_of_part : IsSlotHeap event_before (take part.count (places_of items part)) (places_of places part) (length (places_of items part))
  heap_of_part =
      subst (λ (xs : List (Item Timed)). IsSlotHeap event_before xs (places_of places part) (length (places_of items part))) (sym (keyed_in_places items part part_fits))
      (subst (IsSlotHeap event_before (keyed_of items part) (places_of places part)) (sym items_long) (heaps.heap group part at))

  count_of_part : length (keyed_of items part) ≡ part.count
  count_of_part = length-keyed items part (omega (arith, part_in, part_fits))

  keyed_items_apart : AreApart part.room (keyed_of items part)
  keyed_items_apart = subst (λ n. AreApart n (keyed_of items part)) places_long (heaps.heap group part at).apart

  -- its least
  pub none_of_part : part.count ≡ 0 → IsEmptyMap (heap_at (maps_of_slots parts items) group)
  none_of_part none =
      subst IsEmptyMap (sym map_of_part) (empty_items event_before event_laws part.room (keyed_of items part) keyed_items_apart (heaps.heap group part at).ordered (omega (arith, count_of_part, none)))

  pub least_of_part : (top : Item Timed) → 0 < part.count → slice_get items part.start ≡ Some top → IsLeast event_before (heap_at (maps_of_slots parts items) group) top.slot top.key
  least_of_part top some e =
      subst (λ h. IsLeast event_before h top.slot top.key) (sym map_of_part)
      (top_is_least event_before event_laws part.room (keyed_of items part) keyed_items_apart (heaps.heap group part at).ordered top (first_keyed items part top (omega (arith, part_in, part_fits)) some e))

  -- it is written, and this number of its places have a key
  module _ (k : ℕ) (whole : k ≡ part.room) (ys : List (Item Timed)) (ps : List ℕ) (items_each : length ys ≡ k) (places_each : length ps ≡ k) (count : ℕ) (few : count ≤ length ys) where
    abbrev pub new_items : List (Item Timed)
    new_items = put_mid part.start k items ys

    abbrev pub new_places : List ℕ
    new_places = put_mid part.start k places ps

    abbrev written_part : Part
    written_part = part_with_count parts (length items) heaps.packed group part at count

    abbrev pub new_parts : List Part
    new_parts = set parts group written_part

    in_part : k ≤ part.room
    in_part = omega (arith, whole)

    places_now : places_of new_places part ≡ ps
    places_now =
        part_of_written part.start k places ps (omega (arith, part_in, heaps.places_each)) part.room (omega (arith, places_each, whole)) ∙ take_all part.room ps (omega (arith, places_each, whole))

    keys_of_written_part : keyed_of new_items written_part ≡ take count ys
    keys_of_written_part = part_of_written part.start k items ys (omega (arith, part_in)) count few

    long : length new_items ≡ length items
    long = length-written parts (length items) heaps.packed group part at items ys k refl in_part items_each

    elsewhere : (other : ℕ) (q : Part) → slice_get parts other ≡ Some q → other ≢ group → keyed_of new_items q ≡ keyed_of items q
    elsewhere = keyed_elsewhere parts (length items) heaps.packed group part at items ys k refl in_part items_each

    pub slots_after : IsSlotHeap event_before (take count ys) ps (length ys) → AreSlotHeaps event_before new_parts new_items new_places
    slots_after heap = record {
      packed = subst (λ (n : ℕ). ArePacked new_parts n) (sym long) (packed_after parts (length items) heaps.packed group part at count (omega (arith, few, items_each, whole)));
      places_each = length-written parts (length items) heaps.packed group part at places ps k heaps.places_each in_part places_each ∙ heaps.places_each ∙ sym long;
      small = λ other q e. narrow other q (part_with_new_count parts (length items) heaps.packed group part at count other q e);
      heap = λ other q e. there other q (part_with_new_count parts (length items) heaps.packed group part at count other q e);
    }
      where
        narrow : (other : ℕ) (q : Part) → ((other ≡ group) × (written_part ≡ q)) ⊎ ((other ≢ group) × (slice_get parts other ≡ Some q)) → q.room ≤ MAX_SLOTS
        narrow other q (inl s) = subst (λ (u : Part). u.room ≤ MAX_SLOTS) s.1 part_small
        narrow other q (inr s) = heaps.small other q s.1

        here : IsSlotHeap event_before (keyed_of new_items written_part) (places_of new_places written_part) part.room
        here =
            subst (λ (xs : List (Item Timed)). IsSlotHeap event_before xs (places_of new_places written_part) part.room) (sym keys_of_written_part)
            (subst (λ (xs : List ℕ). IsSlotHeap event_before (take count ys) xs part.room) (sym places_now)
            (subst (IsSlotHeap event_before (take count ys) ps) (items_each ∙ whole) heap))

        there : (other : ℕ) (q : Part) → ((other ≡ group) × (written_part ≡ q)) ⊎ ((other ≢ group) × (slice_get parts other ≡ Some q)) → IsSlotHeap event_before (keyed_of new_items q) (places_of new_places q) q.room
        there other q (inl s) =
            subst (λ (u : Part). IsSlotHeap event_before (keyed_of new_items u) (places_of new_places u) u.room) s.1 here
        there other q (inr s) =
            subst (λ (xs : List (Item Timed)). IsSlotHeap event_before xs (places_of new_places q) q.room) (sym (elsewhere other q s.1 s.0))
            (subst (λ (xs : List ℕ). IsSlotHeap event_before (keyed_of items q) xs q.room) (sym (places_elsewhere parts (length items) heaps.packed group part at places ps k heaps.places_each in_part places_each other q s.1 s.0)) (heaps.heap other q s.1))

    pub maps_after : (place : ℕ) (value : Option Timed) → placed (length ps) (take count ys) ≡ slice_set (placed (length (places_of places part)) (take part.count (places_of items part))) place value → maps_of_slots new_parts new_items ≡ with_key (maps_of_slots parts items) (record { group = group; place = place }) value
    maps_after place value is =
        map_written (map_of_slots items) (map_of_slots new_items) parts group written_part (λ other q e n. ap (placed q.room) (elsewhere other q e n))
        ∙ ap (set (maps_of_slots parts items) group) (mine ∙ is ∙ before)
      where
        mine : map_of_slots new_items written_part ≡ placed (length ps) (take count ys)
        mine = ap (placed part.room) keys_of_written_part ∙ ap (λ n. placed n (take count ys)) (sym (places_each ∙ whole))

        before : slice_set (placed (length (places_of places part)) (take part.count (places_of items part))) place value ≡ slice_set (heap_at (maps_of_slots parts items) group) place value
        before =
            ap (λ n. slice_set (placed n (take part.count (places_of items part))) place value) places_long
            ∙ ap (λ xs. slice_set (placed part.room xs) place value) (keyed_in_places items part part_fits)
            ∙ ap (λ h. slice_set h place value) (sym map_of_part)
