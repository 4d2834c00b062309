-- Heaps of groups, each in its part of a shared table.
use Rattle.std.specs.Prelude.{◌≡◌, ◌<◌, ◌≤◌, ◌+◌, ◌-◌, ℕ, Bool, List, Option, Some, length, map, take, slice_get, slice_range}
use Rattle.sim_stations.specs.declared.parts.Part.{Part}
use Rattle.sim_queue.specs.declared.heap_item.TheConstants.{MAX_SLOTS}
use Rattle.sim_queue.specs.Item.{Item}
use Rattle.sim_queue.specs.TopHeap.{placed, IsTopHeap, IsSlotHeap}

abbrev pub room_of : Part → ℕ
room_of part = part.room

-- The parts follow one another in a table of that length. No part has more keys than places.
pub record ArePacked (parts : List Part) (size : ℕ) : Type 0 where
  pub apart : (i j : ℕ) (p q : Part) → i < j → slice_get parts i ≡ Some p → slice_get parts j ≡ Some q → p.start + p.room ≤ q.start
  pub within : (i : ℕ) (p : Part) → slice_get parts i ≡ Some p → p.start + p.room ≤ size
  pub fits : (i : ℕ) (p : Part) → slice_get parts i ≡ Some p → p.count ≤ p.room

-- no place of any part has a key
abbrev pub AreWithoutKeys : List Part → Type 0
AreWithoutKeys parts = (group : ℕ) (part : Part) → slice_get parts group ≡ Some part → part.count ≡ 0

-- a list without its last item
abbrev pub all_but_last : {X : Type 0} → List X → List X
all_but_last xs = take (length xs - 1) xs

-- the entries at the places of a part
abbrev pub places_of : {X : Type 0} → List X → Part → List X
places_of table part = slice_range table part.start (part.start + part.room)

-- the entries at its places that have a key
abbrev pub keyed_of : {X : Type 0} → List X → Part → List X
keyed_of table part = slice_range table part.start (part.start + part.count)

module _ {K : Type 0} where
  -- the map of a part whose slots know their places: it has as many slots as places
  abbrev pub map_of_slots : List (Item K) → Part → List (Option K)
  map_of_slots items part = placed part.room (keyed_of items part)

  abbrev pub maps_of_slots : List Part → List (Item K) → List (List (Option K))
  maps_of_slots parts items = map (map_of_slots items) parts

-- the maps of the groups, and the room of each for keys
pub record Roomed (K : Type 0) : Type 0 where
  pub maps : List (List (Option K))
  pub rooms : List ℕ

-- There are `slots` slots, any of which may have its key in the heap of any group.
module _ {K : Type 0} (slots : ℕ) where
  -- the map of a part that has items
  abbrev pub map_of_items : List (Item K) → Part → List (Option K)
  map_of_items items part = placed slots (keyed_of items part)

  abbrev pub maps_of_items : List Part → List (Item K) → List (List (Option K))
  maps_of_items parts items = map (map_of_items items) parts

  abbrev pub roomed : List Part → List (Item K) → Roomed K
  roomed parts items = record { maps = maps_of_items parts items; rooms = map room_of parts }

module _ {K : Type 0} (before : K → K → Bool) where
  -- each part is a heap whose slots know their places
  pub record AreSlotHeaps (parts : List Part) (items : List (Item K)) (places : List ℕ) : Type 0 where
    pub packed : ArePacked parts (length items)
    pub places_each : length places ≡ length items
    pub small : (group : ℕ) (part : Part) → slice_get parts group ≡ Some part → part.room ≤ MAX_SLOTS
    pub heap :
        (group : ℕ) (part : Part) → slice_get parts group ≡ Some part
        → IsSlotHeap before (keyed_of items part) (places_of places part) part.room

  -- each part is a heap of items
  pub record AreItemHeaps (slots : ℕ) (parts : List Part) (items : List (Item K)) : Type 0 where
    pub packed : ArePacked parts (length items)
    pub heap :
        (group : ℕ) (part : Part) → slice_get parts group ≡ Some part
        → IsTopHeap before (keyed_of items part) slots slots
