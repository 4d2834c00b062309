-- Groups in whose heaps the place of each slot is its number.
use Rattle.std.proofs.Common.{◌≡◌, ◌==◌, ◌<◌, ◌≤◌, ◌+◌, ◌^◌, ℕ, zero, suc, All, List, [], ◌∷◌, length, map, set, get_or, slice_get, slice_index, replicate, Option, Some, None, count_by, is_some, refl, sym, ap, ◌∙◌, subst, arith}
use Rattle.std.specs.Option.{option_map}
use Rattle.std.specs.List.{enumerate_from}
use Rattle.std.proofs.lemmas.List.{length-map, length-set, length-replicate, get_or-replicate}
use Rattle.std.proofs.lemmas.List.FromFn.{length-enumerate_from, get_or-enumerate_from}
use Rattle.std.proofs.lemmas.List.Elements.{All-get_or, All-replicate}
use Rattle.std.proofs.lemmas.List.Sums.{count_by-le-length}
use Rattle.std.proofs.lemmas.Option.{same_Some, slice_get-get_or, slice_get_within, slice_get-map, get_or_from_slice_get}
use Rattle.sim_queue.specs.declared.home.PlaceInGroup.{PlaceInGroup}
use Rattle.sim_queue.specs.Map.{key_at, no_keys}
use Rattle.sim_queue.specs.Groups.{Grouped, IsHoused, AreHomes, heap_at, with_key, key_of_home, group_of_home, grouped}
use Rattle.sim_stations.specs.AtSlots.{AreCounts, AreHousedAtSlots, at_home, homes_at_slots, grouped_at_slots}
use Rattle.sim_queue.proofs.ForCallers.{grouped_after_change, housed_after_change}
use Rattle.sim_queue.proofs.ForCallers.{empty_housed, empty_grouped}
use Rattle.sim_stations.proofs.Rooms.{AreOnlyOf, fewer_keys_than_members}

mapped_replicate : {X Y : Type 0} (f : X → Y) (n : ℕ) (x : X) → map f (replicate n x) ≡ replicate n (f x)
mapped_replicate f zero x = refl
mapped_replicate f (suc n) x = ap (λ ys. f x ∷ ys) (mapped_replicate f n x)

groups_of_enumerated_homes : (n : ℕ) (groups : List ℕ) → map group_of_home (map (λ p. at_home p.1 p.0) (enumerate_from n groups)) ≡ groups
groups_of_enumerated_homes n [] = refl
groups_of_enumerated_homes n (group ∷ groups) = ap (λ gs. group ∷ gs) (groups_of_enumerated_homes (n + 1) groups)

module _ (groups : List ℕ) where
  pub groups_of_homes : map group_of_home (homes_at_slots groups) ≡ groups
  groups_of_homes = groups_of_enumerated_homes 0 groups

  pub length-homes : length (homes_at_slots groups) ≡ length groups
  length-homes =
      length-map (enumerate_from 0 groups) (λ p. at_home p.1 p.0) ∙ length-enumerate_from 0 groups

  -- the home of a slot
  pub home_at_slot : (slot group : ℕ) → slice_get groups slot ≡ Some group → slice_get (homes_at_slots groups) slot ≡ Some (at_home group slot)
  home_at_slot slot group e =
      let within : slot < length groups = slice_get_within groups slot group e in
      let pair = slice_get-get_or (enumerate_from 0 groups) slot (0, group) (omega (arith, within, length-enumerate_from 0 groups)) ∙ ap Some (get_or-enumerate_from 0 groups slot (0, group) within) in
      let from_zero : 0 + slot ≡ slot = omega arith in
      slice_get-map (λ (p : ℕ × ℕ). at_home p.1 p.0) (enumerate_from 0 groups) slot
      ∙ ap (option_map (λ (p : ℕ × ℕ). at_home p.1 p.0)) pair
      ∙ (λ i. Some (at_home (get_or_from_slice_get groups slot group group e i) (from_zero i)))

  -- the slot of a home
  pub slot_at_home : (slot : ℕ) (home : PlaceInGroup) → slice_get (homes_at_slots groups) slot ≡ Some home → (home.place ≡ slot) × (slice_get groups slot ≡ Some home.group)
  slot_at_home slot home e =
      let within : slot < length groups = omega (arith, slice_get_within (homes_at_slots groups) slot home e, length-homes) in
      let group = get_or groups slot 0 in
      let at : slice_get groups slot ≡ Some group = slice_get-get_or groups slot 0 within in
      let same : at_home group slot ≡ home = same_Some (at_home group slot) home (sym (home_at_slot slot group at) ∙ e) in
      (ap (λ (h : PlaceInGroup). h.place) (sym same), at ∙ ap (λ (h : PlaceInGroup). Some h.group) same)

  pub apart_at_slots : (slot other : ℕ) (home : PlaceInGroup) → slice_get (homes_at_slots groups) slot ≡ Some home → slice_get (homes_at_slots groups) other ≡ Some home → slot ≡ other
  apart_at_slots slot other home e f = sym (slot_at_home slot home e).0 ∙ (slot_at_home other home f).0

  pub grouped_by_homes : {K : Type 0} (maps : List (List (Option K))) → grouped (homes_at_slots groups) maps ≡ grouped_at_slots groups maps
  grouped_by_homes maps i = record { keys = map (key_of_home maps) (homes_at_slots groups); groups = groups_of_homes i }

-- there is room for another
module _ {K : Type 0} (groups : List ℕ) (maps : List (List (Option K))) (rooms : List ℕ) (are : AreHousedAtSlots groups maps rooms) (slot group : ℕ) (member : slice_get groups slot ≡ Some group) where
  abbrev pub homes : List PlaceInGroup
  homes = homes_at_slots groups

  pub home_of_slot : slice_get homes slot ≡ Some (at_home group slot)
  home_of_slot = home_at_slot groups slot group member

  pub group_has_map : group < length maps
  group_has_map = are.housed.group_in slot (at_home group slot) home_of_slot

  pub slot_in_map : slot < length (heap_at maps group)
  slot_in_map = are.housed.place_in slot (at_home group slot) home_of_slot

  pub has_room : key_at (heap_at maps group) slot ≡ None → (k : K) → count_by is_some (heap_at maps group) < slice_index rooms group
  has_room free k =
      omega (arith, fewer_keys_than_members group (heap_at maps group) groups only slot slot_in_map member free k, are.counted group (omega (arith, group_has_map, are.each)))
    where
      only : AreOnlyOf groups group (heap_at maps group)
      only other l e =
          let lives = are.housed.inhabited group other l e in
          let there = slot_at_home groups lives.0 (at_home group other) lives.1 in
          ap (slice_get groups) there.0 ∙ there.1

  pub room_within : slice_index rooms group ≤ length groups
  room_within =
      omega (arith, are.counted group (omega (arith, group_has_map, are.each)), count_by-le-length (λ number. number == group) groups)

  -- the key of the slot is changed
  module _ (value : Option K) where
    abbrev pub maps_now : List (List (Option K))
    maps_now = with_key maps (at_home group slot) value

    pub housed_after : AreHousedAtSlots groups maps_now rooms
    housed_after = record {
      housed = housed_after_change homes maps are.housed slot (at_home group slot) home_of_slot value (heap_at maps group) (set (heap_at maps group) slot value) refl refl;
      each = are.each ∙ sym (length-set maps group (set (heap_at maps group) slot value));
      counted = are.counted;
    }

    pub grouped_after : grouped_at_slots groups maps_now ≡ record { keys = set (grouped_at_slots groups maps).keys slot value; groups = groups }
    grouped_after i = record {
      keys = ap (λ (q : Grouped K). q.keys) (grouped_after_change homes maps are.housed slot (at_home group slot) home_of_slot value (heap_at maps group) (set (heap_at maps group) slot value) refl refl) i;
      groups = groups;
    }

-- no slot has a key
module _ (groups counts : List ℕ) (few : length groups < 2 ^ 32) (within : All (λ group. group < length counts) groups) (counted : AreCounts groups counts) where
  abbrev sizes : List ℕ
  sizes = replicate (length counts) (length groups)

  sizes_length : length sizes ≡ length counts
  sizes_length = length-replicate {A = ℕ} (length counts) (length groups)

  homes_are_given : AreHomes groups (homes_at_slots groups) sizes
  homes_are_given = record {
    groups = groups_of_homes groups;
    group_in = λ slot home e. omega (arith, exists slot home e, sizes_length);
    place_in = λ slot home e. omega (arith, (slot_at_home groups slot home e).0, slice_get_within groups slot home.group (slot_at_home groups slot home e).1, get_or-replicate (length counts) home.group (length groups) 0 (exists slot home e));
    apart = apart_at_slots groups;
  }
    where
      exists : (slot : ℕ) (home : PlaceInGroup) → slice_get (homes_at_slots groups) slot ≡ Some home → home.group < length counts
      exists slot home e =
          let at = (slot_at_home groups slot home e).1 in
          subst (λ group. group < length counts) (get_or_from_slice_get groups slot home.group 0 at) (All-get_or (λ group. group < length counts) groups slot 0 (slice_get_within groups slot home.group at) within)

  module _ {K : Type 0} where
    maps_without_keys : map (no_keys {K = K}) sizes ≡ replicate (length counts) (no_keys {K = K} (length groups))
    maps_without_keys = mapped_replicate (no_keys {K = K}) (length counts) (length groups)

    pub housed_at_slots : AreHousedAtSlots groups (replicate (length counts) (no_keys {K = K} (length groups))) counts
    housed_at_slots = record {
      housed = subst (IsHoused (homes_at_slots groups)) maps_without_keys (empty_housed groups (homes_at_slots groups) sizes homes_are_given (omega (arith, few, length-homes groups)) (All-replicate (λ count. count ≤ length (homes_at_slots groups)) (length counts) (length groups) (omega (arith, length-homes groups))));
      each = sym (length-replicate {A = List (Option K)} (length counts) (no_keys {K = K} (length groups)));
      counted = counted;
    }

    pub grouped_none : grouped_at_slots groups (replicate (length counts) (no_keys {K = K} (length groups))) ≡ record { keys = replicate (length groups) None; groups = groups }
    grouped_none =
        sym (grouped_by_homes groups (replicate (length counts) (no_keys {K = K} (length groups))))
        ∙ ap (grouped (homes_at_slots groups)) (sym maps_without_keys)
        ∙ empty_grouped groups (homes_at_slots groups) sizes homes_are_given
