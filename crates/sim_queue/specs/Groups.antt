-- Slots in groups, each of which knows its least key.
use Rattle.std.specs.Prelude.{◌≡◌, ◌⊎◌, ◌<◌, ◌≤◌, ◌^◌, ℕ, Bool, true, false, List, [], Option, Some, None, length, map, slice_get, slice_index, slice_index_or, slice_set}
use Rattle.sim_queue.specs.declared.home.PlaceInGroup.{PlaceInGroup}
use Rattle.sim_queue.specs.Map.{key_at}

-- what each slot has, a key or None, and the group of each slot
pub record Grouped (K : Type 0) : Type 0 where
  pub keys : List (Option K)
  pub groups : List ℕ

abbrev pub group_of_home : PlaceInGroup → ℕ
group_of_home home = home.group

-- homes for slots of these groups, with these numbers of slots per group: no home is given twice
pub record AreHomes (numbers : List ℕ) (homes : List PlaceInGroup) (counts : List ℕ) : Type 0 where
  pub groups : map group_of_home homes ≡ numbers
  pub group_in : (slot : ℕ) (home : PlaceInGroup) → slice_get homes slot ≡ Some home → home.group < length counts
  pub place_in : (slot : ℕ) (home : PlaceInGroup) → slice_get homes slot ≡ Some home → home.place < slice_index counts home.group
  pub apart : (slot other : ℕ) (home : PlaceInGroup) → slice_get homes slot ≡ Some home → slice_get homes other ≡ Some home → slot ≡ other

module _ {K : Type 0} where
  -- no slot of the group has a key
  abbrev pub IsEmptyGroup : Grouped K → ℕ → Type 0
  IsEmptyGroup q group = (slot : ℕ) → slice_get q.groups slot ≡ Some group → key_at q.keys slot ≡ None

  -- a slot of the group has this key, and no key of the group is before it
  pub record IsLeastOf (before : K → K → Bool) (q : Grouped K) (group : ℕ) (key : K) : Type 0 where
    pub slot : ℕ
    pub member : slice_get q.groups slot ≡ Some group
    pub has : key_at q.keys slot ≡ Some key
    pub least :
        (other : ℕ) (k : K)
        → slice_get q.groups other ≡ Some group → key_at q.keys other ≡ Some k → before k key ≡ false

  -- the slot has a key that is before the key of every other slot of its group
  pub record IsSoleLeastOf (before : K → K → Bool) (q : Grouped K) (slot : ℕ) : Type 0 where
    pub key : K
    pub has : key_at q.keys slot ≡ Some key
    pub first :
        (other : ℕ) (k : K)
        → slice_get q.groups other ≡ slice_get q.groups slot → key_at q.keys other ≡ Some k → (other ≡ slot) ⊎ (before key k ≡ true)

  -- the map of a group
  abbrev pub heap_at : List (List (Option K)) → ℕ → List (Option K)
  heap_at heaps group = slice_index_or heaps group []

  -- the key at a home
  abbrev pub key_of_home : List (List (Option K)) → PlaceInGroup → Option K
  key_of_home heaps home = key_at (heap_at heaps home.group) home.place

  -- the maps after a home got this key or None
  abbrev pub with_key : List (List (Option K)) → PlaceInGroup → Option K → List (List (Option K))
  with_key heaps home key = slice_set heaps home.group (slice_set (heap_at heaps home.group) home.place key)

  abbrev pub grouped : List PlaceInGroup → List (List (Option K)) → Grouped K
  grouped homes heaps = record { keys = map (key_of_home heaps) homes; groups = map group_of_home homes }

  -- Each slot has its own home in the heap of its group, and each key is at the home of a slot. No heap has more slots
  -- than there are.
  pub record IsHoused (homes : List PlaceInGroup) (heaps : List (List (Option K))) : Type 0 where
    pub few : length homes < 2 ^ 32
    pub group_in : (slot : ℕ) (home : PlaceInGroup) → slice_get homes slot ≡ Some home → home.group < length heaps
    pub place_in : (slot : ℕ) (home : PlaceInGroup) → slice_get homes slot ≡ Some home → home.place < length (heap_at heaps home.group)
    pub sized : (group : ℕ) → length (heap_at heaps group) ≤ length homes
    pub apart : (slot other : ℕ) (home : PlaceInGroup) → slice_get homes slot ≡ Some home → slice_get homes other ≡ Some home → slot ≡ other
    pub inhabited :
        (group place : ℕ) (key : K)
        → key_at (heap_at heaps group) place ≡ Some key
        → (slot : ℕ) × (slice_get homes slot ≡ Some (record { group = group; place = place }))
