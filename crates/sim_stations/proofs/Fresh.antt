-- Heaps in parts of a table, none of which has a key.
use Rattle.std.proofs.Common.{◌≡◌, ◌<◌, ◌≤◌, ◌+◌, ◌-◌, ◌^◌, ℕ, suc, List, [], ◌∷◌, length, map, take, drop, slice_get, Option, Some, refl, sym, ap, ap₂, ◌∙◌, subst, arith, replicate}
use Rattle.std.proofs.lemmas.List.{length-map}
use Rattle.goal_limits.specs.declared.limits.TheConstants.{MAX_OPS}
use Rattle.goal_graph.specs.declared.action.Timed.{Timed}
use Rattle.sim_order.specs.Events.{event_before}
use Rattle.sim_queue.specs.declared.heap_item.TheConstants.{MAX_SLOTS}
use Rattle.sim_queue.specs.Item.{Item}
use Rattle.sim_queue.specs.Map.{no_keys}
use Rattle.sim_queue.specs.TopHeap.{placed, IsSlotHeap}
use Rattle.sim_stations.specs.declared.parts.Part.{Part}
use Rattle.sim_stations.specs.Parts.{room_of, places_of, keyed_of, map_of_slots, maps_of_slots, map_of_items, maps_of_items, roomed, ArePacked, AreWithoutKeys, AreSlotHeaps, AreItemHeaps}
use Rattle.sim_stations.proofs.InParts.{length-places}
use Rattle.sim_stations.proofs.ItemParts.{no_items_heap}

-- no place has a key
no_keyed_entries : {X : Type 0} (table : List X) (part : Part) → part.count ≡ 0 → keyed_of table part ≡ []
no_keyed_entries table part e =
    let none : part.start + part.count - part.start ≡ 0 = omega (arith, e) in
    ap (λ n. take n (drop part.start table)) none

-- the maps of parts, each without a key
slot_maps_of_empty_parts : (f : Part → List (Option Timed)) (parts : List Part) → ((group : ℕ) (part : Part) → slice_get parts group ≡ Some part → f part ≡ no_keys part.room) → map f parts ≡ map (no_keys {K = Timed}) (map room_of parts)
slot_maps_of_empty_parts f [] each = refl
slot_maps_of_empty_parts f (part ∷ parts) each =
    ap₂ (λ (h : List (Option Timed)) hs. h ∷ hs) (each 0 part refl) (slot_maps_of_empty_parts f parts (λ group p e. each (suc group) p e))

-- the maps of parts of items, each without a key
item_maps_of_empty_parts : (f : Part → List (Option Timed)) (slots : ℕ) (parts : List Part) → ((group : ℕ) (part : Part) → slice_get parts group ≡ Some part → f part ≡ no_keys slots) → map f parts ≡ replicate (length parts) (no_keys {K = Timed} slots)
item_maps_of_empty_parts f slots [] each = refl
item_maps_of_empty_parts f slots (part ∷ parts) each =
    ap₂ (λ (h : List (Option Timed)) hs. h ∷ hs) (each 0 part refl) (item_maps_of_empty_parts f slots parts (λ group p e. each (suc group) p e))

no_items_no_keys : (slots : ℕ) → placed {K = Timed} slots [] ≡ no_keys slots
unfolding placed
no_items_no_keys slots = refl

module _ (parts : List Part) (size : ℕ) (packed : ArePacked parts size) (none : AreWithoutKeys parts) (counts : List ℕ) (rooms : map room_of parts ≡ counts) where
  -- without items
  module _ (items : List (Item Timed)) (long : length items ≡ size) where
    pub item_heaps_without_keys : (slots : ℕ) → slots ≤ MAX_OPS → AreItemHeaps event_before slots parts items
    item_heaps_without_keys slots few = record {
      packed = subst (ArePacked parts) (sym long) packed;
      heap = λ group part at. no_items_heap (keyed_of items part) slots (ap length (no_keyed_entries items part (none group part at))) few;
    }

    one_part_per_count : length parts ≡ length counts
    one_part_per_count = sym (length-map parts room_of) ∙ ap length rooms

    maps_are : (slots : ℕ) → maps_of_items slots parts items ≡ replicate (length counts) (no_keys {K = Timed} slots)
    maps_are slots =
        item_maps_of_empty_parts (map_of_items slots items) slots parts (λ group part at. ap (placed slots) (no_keyed_entries items part (none group part at)) ∙ no_items_no_keys slots) ∙ ap (λ n. replicate n (no_keys {K = Timed} slots)) one_part_per_count

    pub roomed_without_items : (slots : ℕ) → roomed slots parts items ≡ record { maps = replicate (length counts) (no_keys {K = Timed} slots); rooms = counts }
    roomed_without_items slots i = record { maps = maps_are slots i; rooms = rooms i }

  module _ (items : List (Item Timed)) (places : List ℕ) (each : length items ≡ size) (places_each : length places ≡ size) where
    pub slot_maps_without_keys : maps_of_slots parts items ≡ map (no_keys {K = Timed}) counts
    slot_maps_without_keys =
        slot_maps_of_empty_parts (map_of_slots items) parts (λ group part at. ap (placed part.room) (no_keyed_entries items part (none group part at)) ∙ no_items_no_keys part.room) ∙ ap (map (no_keys {K = Timed})) rooms

    -- a heap without a key
    slot_heap_without_keys : (ps : List ℕ) (room : ℕ) → length ps ≡ room → room < 2 ^ 32 → IsSlotHeap event_before [] ps room
    slot_heap_without_keys ps room long few = record {
      reserved = omega (arith, long);
      few = omega (arith, long, few);
      apart = record { within = λ place x e. absurd (cc); apart = λ a b x y e f s. absurd (cc) };
      noted = λ place x e. absurd (cc);
      ordered = λ place child is_child h. absurd (omega (arith, h));
    }

    pub slot_heaps_without_keys : size ≤ MAX_SLOTS → AreSlotHeaps event_before parts items places
    slot_heaps_without_keys few = record {
      packed = subst (ArePacked parts) (sym each) packed;
      places_each = places_each ∙ sym each;
      small = λ group part at. omega (arith, packed.within group part at, few);
      heap =
          λ group part at.
          subst (λ (xs : List (Item Timed)). IsSlotHeap event_before xs (places_of places part) part.room) (sym (no_keyed_entries items part (none group part at)))
          (slot_heap_without_keys (places_of places part) part.room (length-places places part (omega (arith, packed.within group part at, places_each))) (omega (arith, packed.within group part at, few)));
    }
