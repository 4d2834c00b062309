-- Slots in groups, where the key of one slot is changed, and the least of a group.
use Rattle.std.proofs.Common.{◌≡◌, ◌≢◌, ◌⊎◌, ◌<◌, ◌≤◌, ℕ, Bool, true, false, List, [], length, map, set, get_or, slice_get, Option, Some, None, sym, ap, ◌∙◌, arith, inl, inr}
use Rattle.std.proofs.lemmas.Bool.{cases_eq, cases_lt}
use Rattle.std.proofs.lemmas.List.{get_or-set_same, get_or-set_other, length-set, get_or-map, get_or_read, same_lists}
use Rattle.std.proofs.lemmas.Option.{slice_get-get_or, slice_get_within, slice_get_past, get_or_from_slice_get, slice_get-map, same_Some}
use Rattle.std.proofs.lemmas.List.{length-map}
use Rattle.std.specs.Option.{option_map, IfSome}
use Rattle.sim_queue.specs.declared.home.PlaceInGroup.{PlaceInGroup}
use Rattle.sim_queue.specs.Map.{key_at, IsLeast, IsSoleLeast, IsEmptyMap}
use Rattle.sim_queue.specs.Groups.{IsHoused, IsEmptyGroup, IsLeastOf, IsSoleLeastOf, heap_at, key_of_home, group_of_home, grouped}

pub home_from_parts : (a b : PlaceInGroup) → a.group ≡ b.group → a.place ≡ b.place → a ≡ b
home_from_parts a b e f i = record { group = e i; place = f i }

module _ {K : Type 0} (homes : List PlaceInGroup) (heaps : List (List (Option K))) (housed : IsHoused homes heaps) where
  -- the home of a slot, as the code reads it
  pub home_read : (slot : ℕ) (home : PlaceInGroup) → slot < length homes → home ≡ get_or homes slot home → slice_get homes slot ≡ Some home
  home_read slot home l e = slice_get-get_or homes slot home l ∙ ap Some (sym e)

  pub heap_read : (group : ℕ) (heap : List (Option K)) → group < length heaps → heap ≡ get_or heaps group heap → heap ≡ heap_at heaps group
  heap_read group heap l e = get_or_read heaps group heap l e []

  -- the key of a slot is that of its home
  pub key_at_home : (slot : ℕ) (home : PlaceInGroup) → slice_get homes slot ≡ Some home → key_at (grouped homes heaps).keys slot ≡ key_of_home heaps home
  key_at_home slot home at =
      get_or-map (key_of_home heaps) homes slot home None (slice_get_within homes slot home at) ∙ ap (key_of_home heaps) (get_or_from_slice_get homes slot home home at)

  pub group_at_home : (slot : ℕ) (home : PlaceInGroup) → slice_get homes slot ≡ Some home → slice_get (grouped homes heaps).groups slot ≡ Some home.group
  group_at_home slot home at = slice_get-map group_of_home homes slot ∙ ap (option_map group_of_home) at

  -- a slot of a group has its home in it
  pub home_of_member : (slot group : ℕ) → slice_get (grouped homes heaps).groups slot ≡ Some group → (home : PlaceInGroup) × (slice_get homes slot ≡ Some home) × (home.group ≡ group)
  home_of_member slot group e = go (cases_lt slot (length homes))
    where
      go : (slot < length homes) ⊎ (length homes ≤ slot) → (home : PlaceInGroup) × (slice_get homes slot ≡ Some home) × (home.group ≡ group)
      go (inl l) =
          let home : PlaceInGroup = get_or homes slot (record { group = 0; place = 0 }) in
          let at : slice_get homes slot ≡ Some home = slice_get-get_or homes slot (record { group = 0; place = 0 }) l in
          (home, at, same_Some home.group group (sym (group_at_home slot home at) ∙ e))
      go (inr l) =
          let none : slice_get (grouped homes heaps).groups slot ≡ None = slice_get_past (map group_of_home homes) slot (omega (arith, l, length-map homes group_of_home)) in
          absurd (cc)

  -- The key of one slot is changed.
  module _ (slot : ℕ) (home : PlaceInGroup) (at : slice_get homes slot ≡ Some home) (value : Option K) (heap new : List (Option K)) (is_heap : heap ≡ heap_at heaps home.group) (is_new : new ≡ set heap home.place value) where
    abbrev heaps_after_change : List (List (Option K))
    heaps_after_change = set heaps home.group new

    group_in : home.group < length heaps
    group_in = housed.group_in slot home at

    changed_heap : heap_at heaps_after_change home.group ≡ set (heap_at heaps home.group) home.place value
    changed_heap = get_or-set_same heaps home.group new [] group_in ∙ is_new ∙ ap (λ h. set h home.place value) is_heap

    other_heap_unchanged : (group : ℕ) → group ≢ home.group → heap_at heaps_after_change group ≡ heap_at heaps group
    other_heap_unchanged group n = get_or-set_other heaps home.group group new [] n

    heap_lengths_unchanged : (group : ℕ) → length (heap_at heaps_after_change group) ≡ length (heap_at heaps group)
    heap_lengths_unchanged group = go (cases_eq group home.group)
      where
        go : (group ≡ home.group) ⊎ (group ≢ home.group) → length (heap_at heaps_after_change group) ≡ length (heap_at heaps group)
        go (inl e) = rw e (ap length changed_heap ∙ length-set (heap_at heaps home.group) home.place value)
        go (inr n) = ap length (other_heap_unchanged group n)

    key_of_changed_home : key_of_home heaps_after_change home ≡ value
    key_of_changed_home =
        ap (λ h. key_at h home.place) changed_heap ∙ get_or-set_same (heap_at heaps home.group) home.place value None (housed.place_in slot home at)

    key_of_other_home : (other : PlaceInGroup) → ¬ (other ≡ home) → key_of_home heaps_after_change other ≡ key_of_home heaps other
    key_of_other_home other n = go (cases_eq other.group home.group) (cases_eq other.place home.place)
      where
        go : (other.group ≡ home.group) ⊎ (other.group ≢ home.group) → (other.place ≡ home.place) ⊎ (other.place ≢ home.place) → key_of_home heaps_after_change other ≡ key_of_home heaps other
        go (inr d) p = ap (λ h. key_at h other.place) (other_heap_unchanged other.group d)
        go (inl e) (inl f) = absurd (n (home_from_parts other home e f))
        go (inl e) (inr d) =
            let now : key_at (heap_at heaps_after_change other.group) other.place ≡ key_at (set (heap_at heaps home.group) home.place value) other.place = ap (λ g. key_at (heap_at heaps_after_change g) other.place) e ∙ ap (λ h. key_at h other.place) changed_heap in
            now ∙ get_or-set_other (heap_at heaps home.group) home.place other.place value None d ∙ ap (λ g. key_at (heap_at heaps g) other.place) (sym e)

    keys_after_change : map (key_of_home heaps_after_change) homes ≡ set (map (key_of_home heaps) homes) slot value
    keys_after_change = same_lists (map (key_of_home heaps_after_change) homes) (set (map (key_of_home heaps) homes) slot value) (length-map homes (key_of_home heaps_after_change) ∙ sym (length-map homes (key_of_home heaps)) ∙ sym (length-set (map (key_of_home heaps) homes) slot value)) (λ k d l. each k d (rw (length-map homes (key_of_home heaps_after_change)) at l))
      where
        slot_in : slot < length homes
        slot_in = slice_get_within homes slot home at

        each : (k : ℕ) (d : Option K) → k < length homes → get_or (map (key_of_home heaps_after_change) homes) k d ≡ get_or (set (map (key_of_home heaps) homes) slot value) k d
        each k d l = go (cases_eq k slot)
          where
            other : PlaceInGroup
            other = get_or homes k home

            old : get_or (map (key_of_home heaps) homes) k d ≡ key_of_home heaps (get_or homes k home)
            old = get_or-map (key_of_home heaps) homes k home d l

            now : get_or (map (key_of_home heaps_after_change) homes) k d ≡ key_of_home heaps_after_change (get_or homes k home)
            now = get_or-map (key_of_home heaps_after_change) homes k home d l

            go : (k ≡ slot) ⊎ (k ≢ slot) → get_or (map (key_of_home heaps_after_change) homes) k d ≡ get_or (set (map (key_of_home heaps) homes) slot value) k d
            go (inl e) =
                let same : get_or homes k home ≡ home = ap (λ i. get_or homes i home) e ∙ get_or_from_slice_get homes slot home home at in
                let there : get_or (set (map (key_of_home heaps) homes) slot value) k d ≡ value = ap (λ i. get_or (set (map (key_of_home heaps) homes) slot value) i d) e ∙ get_or-set_same (map (key_of_home heaps) homes) slot value d (rw (length-map homes (key_of_home heaps)) slot_in) in
                now ∙ ap (key_of_home heaps_after_change) same ∙ key_of_changed_home ∙ sym there
            go (inr n) =
                let differ : ¬ (get_or homes k home ≡ home) = λ e. n (housed.apart k slot home (slice_get-get_or homes k home l ∙ ap Some e) at) in
                now ∙ key_of_other_home (get_or homes k home) differ ∙ sym old ∙ sym (get_or-set_other (map (key_of_home heaps) homes) slot k value d n)

    pub grouped_after_change : grouped homes heaps_after_change ≡ record { keys = set (grouped homes heaps).keys slot value; groups = (grouped homes heaps).groups }
    grouped_after_change i = record { keys = keys_after_change i; groups = map group_of_home homes }

    pub housed_after_change : IsHoused homes heaps_after_change
    housed_after_change = record {
      few = housed.few;
      group_in = λ s h e. rw (length-set heaps home.group new) (housed.group_in s h e);
      place_in = λ s h e. rw (heap_lengths_unchanged h.group) (housed.place_in s h e);
      sized = λ group. rw (heap_lengths_unchanged group) (housed.sized group);
      apart = housed.apart;
      inhabited = λ group place key e. inside group place key e (cases_eq group home.group) (cases_eq place home.place);
    }
      where
        inside : (group place : ℕ) (key : K) → key_at (heap_at heaps_after_change group) place ≡ Some key → (group ≡ home.group) ⊎ (group ≢ home.group) → (place ≡ home.place) ⊎ (place ≢ home.place) → (s : ℕ) × (slice_get homes s ≡ Some (record { group = group; place = place }))
        inside group place key e (inl f) (inl p) = (slot, at ∙ ap Some (home_from_parts home (record { group = group; place = place }) (sym f) (sym p)))
        inside group place key e (inl f) (inr d) =
            housed.inhabited group place key (sym (key_of_other_home (record { group = group; place = place }) (λ s. d (ap (λ (h : PlaceInGroup). h.place) s))) ∙ e)
        inside group place key e (inr d) p =
            housed.inhabited group place key (sym (key_of_other_home (record { group = group; place = place }) (λ s. d (ap (λ (h : PlaceInGroup). h.group) s))) ∙ e)

  -- if the heap of a group is empty, no slot of it has a key
  pub empty_group : (group : ℕ) → IsEmptyMap (heap_at heaps group) → IsEmptyGroup (grouped homes heaps) group
  empty_group group empty slot member =
      let home = home_of_member slot group member in
      key_at_home slot home.0 home.1 ∙ ap (λ g. key_at (heap_at heaps g) home.0.place) home.2 ∙ empty home.0.place

  pub group_past_end_is_empty : (group : ℕ) → length heaps ≤ group → IsEmptyGroup (grouped homes heaps) group
  group_past_end_is_empty group l slot member =
      let home = home_of_member slot group member in
      absurd (omega (arith, l, home.2, housed.group_in slot home.0 home.1))

  -- the least of the heap is the least of the group
  pub least_of_group : (before : K → K → Bool) (group place : ℕ) (key : K) → IsLeast before (heap_at heaps group) place key → IsLeastOf before (grouped homes heaps) group key
  least_of_group before group place key least =
      let lives = housed.inhabited group place key least.has in
      record {
        slot = lives.0;
        member = group_at_home lives.0 (record { group = group; place = place }) lives.1;
        has = key_at_home lives.0 (record { group = group; place = place }) lives.1 ∙ least.has;
        least = λ other k member has. others other k (home_of_member other group member) has;
      }
    where
      others : (other : ℕ) (k : K) → ((home : PlaceInGroup) × (slice_get homes other ≡ Some home) × (home.group ≡ group)) → key_at (grouped homes heaps).keys other ≡ Some k → before k key ≡ false
      others other k home has =
          least.least home.0.place k (ap (λ g. key_at (heap_at heaps g) home.0.place) (sym home.2) ∙ sym (key_at_home other home.0 home.1) ∙ has)

  pub least_of_answer : (before : K → K → Bool) (group : ℕ) (answer : Option K) → IfSome answer (λ key. (place : ℕ) × IsLeast before (heap_at heaps group) place key) → IfSome answer (IsLeastOf before (grouped homes heaps) group)
  least_of_answer before group None least = least
  least_of_answer before group (Some key) least = least_of_group before group least.0 key least.1

  -- a key before every other of its group is before every other of the heap
  pub sole_of_heap : (before : K → K → Bool) (slot : ℕ) (home : PlaceInGroup) → slice_get homes slot ≡ Some home → IsSoleLeastOf before (grouped homes heaps) slot → IsSoleLeast before (heap_at heaps home.group) home.place
  sole_of_heap before slot home at sole = record {
    key = sole.key;
    has = sym (key_at_home slot home at) ∙ sole.has;
    first = λ place k e. others place k e (housed.inhabited home.group place k e);
  }
    where
      others : (place : ℕ) (k : K) → key_at (heap_at heaps home.group) place ≡ Some k → ((s : ℕ) × (slice_get homes s ≡ Some (record { group = home.group; place = place }))) → (place ≡ home.place) ⊎ (before sole.key k ≡ true)
      others place k e lives = go (sole.first lives.0 k (group_at_home lives.0 there lives.1 ∙ sym (group_at_home slot home at)) (key_at_home lives.0 there lives.1 ∙ e))
        where
          there : PlaceInGroup
          there = record { group = home.group; place = place }

          go : (lives.0 ≡ slot) ⊎ (before sole.key k ≡ true) → (place ≡ home.place) ⊎ (before sole.key k ≡ true)
          go (inl s) =
              inl (ap (λ (h : PlaceInGroup). h.place) (same_Some there home (sym lives.1 ∙ ap (slice_get homes) s ∙ at)))
          go (inr b) = inr b
