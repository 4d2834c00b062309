-- How homes are assigned, and groups in which no slot has a key.
use Rattle.std.proofs.Common.{◌≡◌, ◌≢◌, ◌⊎◌, ◌+◌, ◌<◌, ◌≤◌, ◌^◌, ℕ, All, List, [], ◌∷◌, ◌++◌, length, map, set, get_or, slice_get, slice_index, replicate, Option, Some, None, refl, sym, ap, ◌∙◌, arith, inl, inr}
use Rattle.std.proofs.lemmas.Bool.{cases_eq, cases_lt}
use Rattle.std.proofs.lemmas.List.{get_or-set_same, get_or-set_other, length-set, length-append, length-map, map-append, get_or-map, get_or_past, get_or_append_left, length-replicate}
use Rattle.std.proofs.lemmas.List.Elements.{All-get_or}
use Rattle.std.proofs.lemmas.Option.{slice_get-get_or, slice_get_within, get_or_from_slice_get}
use Rattle.std.proofs.Math.Seq.{get_or-append_seam}
use Rattle.sim_queue.specs.declared.home.PlaceInGroup.{PlaceInGroup}
use Rattle.sim_queue.specs.Map.{key_at, no_keys}
use Rattle.sim_queue.proofs.Maps.{key_at_no_keys}
use Rattle.sim_queue.specs.Groups.{IsHoused, AreHomes, heap_at, key_of_home, group_of_home, grouped}

-- an element of a list with another appended is in the list, or the last
within_or_last : {X : Type 0} (xs : List X) (y z : X) (i : ℕ) → slice_get (xs ++ y ∷ []) i ≡ Some z → (slice_get xs i ≡ Some z) ⊎ ((i ≡ length xs) × (z ≡ y))
within_or_last xs y z i e = go (cases_lt i (length xs))
  where
    read : get_or (xs ++ y ∷ []) i z ≡ z
    read = get_or_from_slice_get (xs ++ y ∷ []) i z z e

    go : (i < length xs) ⊎ (length xs ≤ i) → (slice_get xs i ≡ Some z) ⊎ ((i ≡ length xs) × (z ≡ y))
    go (inl l) = inl (slice_get-get_or xs i z l ∙ ap Some (sym (get_or_append_left xs (y ∷ []) z i l) ∙ read))
    go (inr l) =
        let same : i ≡ length xs = omega (arith, l, slice_get_within (xs ++ y ∷ []) i z e, length-append xs (y ∷ [])) in
        inr (same, sym read ∙ ap (λ k. get_or (xs ++ y ∷ []) k z) same ∙ get_or-append_seam xs y [] z)

-- another slot in a group
module _ (counts : List ℕ) (group : ℕ) (exists : group < length counts) where
  abbrev pub counts_with_slot : List ℕ
  counts_with_slot = set counts group (slice_index counts group + 1)

  count_of_its_group : slice_index counts_with_slot group ≡ slice_index counts group + 1
  count_of_its_group = get_or-set_same counts group (slice_index counts group + 1) 0 exists

  counts_grow : (other : ℕ) → slice_index counts other ≤ slice_index counts_with_slot other
  counts_grow other = go (cases_eq other group)
    where
      go : (other ≡ group) ⊎ (other ≢ group) → slice_index counts other ≤ slice_index counts_with_slot other
      go (inl e) = rw e (omega (arith, count_of_its_group))
      go (inr n) = omega (arith, get_or-set_other counts group other (slice_index counts group + 1) 0 n)

  pub counts_stay_bounded : (n : ℕ) → ((other : ℕ) → slice_index counts other ≤ n) → (other : ℕ) → slice_index counts_with_slot other ≤ n + 1
  counts_stay_bounded n within other = go (cases_eq other group)
    where
      go : (other ≡ group) ⊎ (other ≢ group) → slice_index counts_with_slot other ≤ n + 1
      go (inl e) = rw e (omega (arith, count_of_its_group, within group))
      go (inr d) = omega (arith, get_or-set_other counts group other (slice_index counts group + 1) 0 d, within other)

  -- the home of a slot among those assigned, or the new one
  abbrev IsOldOrNewHome : List PlaceInGroup → ℕ → PlaceInGroup → Type 0
  IsOldOrNewHome homes slot home =
      (slice_get homes slot ≡ Some home) ⊎ ((slot ≡ length homes) × (home ≡ record { group = group; place = slice_index counts group }))

  pub homes_with_new_home : (numbers : List ℕ) (homes : List PlaceInGroup) → AreHomes numbers homes counts → AreHomes (numbers ++ group ∷ []) (homes ++ record { group = group; place = slice_index counts group } ∷ []) counts_with_slot
  homes_with_new_home numbers homes given = record {
    groups = map-append group_of_home homes (record { group = group; place = slice_index counts group } ∷ []) ∙ ap (λ ns. ns ++ group ∷ []) given.groups;
    group_in = λ slot home e. rw (length-set counts group (slice_index counts group + 1)) (group_of slot home (within_or_last homes _ home slot e));
    place_in = λ slot home e. place_of slot home (within_or_last homes _ home slot e);
    apart = λ slot other home e f. differ slot other home (within_or_last homes _ home slot e) (within_or_last homes _ home other f);
  }
    where
      group_of : (slot : ℕ) (home : PlaceInGroup) → IsOldOrNewHome homes slot home → home.group < length counts
      group_of slot home (inl e) = given.group_in slot home e
      group_of slot home (inr e) = rw (ap (λ (h : PlaceInGroup). h.group) e.1) exists

      place_of : (slot : ℕ) (home : PlaceInGroup) → IsOldOrNewHome homes slot home → home.place < slice_index counts_with_slot home.group
      place_of slot home (inl e) = omega (arith, given.place_in slot home e, counts_grow home.group)
      place_of slot home (inr e) =
          let group_is : slice_index counts_with_slot home.group ≡ slice_index counts_with_slot group = ap (λ (h : PlaceInGroup). slice_index counts_with_slot h.group) e.1 in
          omega (arith, ap (λ (h : PlaceInGroup). h.place) e.1, group_is, count_of_its_group)

      clash : (slot : ℕ) (home : PlaceInGroup) → slice_get homes slot ≡ Some home → home ≡ record { group = group; place = slice_index counts group } → ⊥
      clash slot home e f =
          let group_is : slice_index counts home.group ≡ slice_index counts group = ap (λ (h : PlaceInGroup). slice_index counts h.group) f in
          omega (arith, ap (λ (h : PlaceInGroup). h.place) f, group_is, given.place_in slot home e)

      differ : (slot other : ℕ) (home : PlaceInGroup) → IsOldOrNewHome homes slot home → IsOldOrNewHome homes other home → slot ≡ other
      differ slot other home (inl e) (inl f) = given.apart slot other home e f
      differ slot other home (inl e) (inr f) = absurd (clash slot home e f.1)
      differ slot other home (inr e) (inl f) = absurd (clash other home f e.1)
      differ slot other home (inr e) (inr f) = e.0 ∙ sym f.0

pub no_homes : (counts : List ℕ) → AreHomes [] [] counts
no_homes counts = record {
  groups = refl;
  group_in = λ slot home e. absurd (nothing slot home e);
  place_in = λ slot home e. absurd (nothing slot home e);
  apart = λ slot other home e f. absurd (nothing slot home e);
}
  where
    nothing : (slot : ℕ) (home : PlaceInGroup) → slice_get [] slot ≡ Some home → ⊥
    nothing slot home e = omega (arith, slice_get_within [] slot home e)

pub homes_length : (numbers : List ℕ) (homes : List PlaceInGroup) (counts : List ℕ) → AreHomes numbers homes counts → length homes ≡ length numbers
homes_length numbers homes counts given = sym (length-map homes group_of_home) ∙ ap length given.groups

-- no group has a key
module _ {K : Type 0} where
  homes_without_keys : (f : PlaceInGroup → Option K) → ((home : PlaceInGroup) → f home ≡ None) → (homes : List PlaceInGroup) → map f homes ≡ replicate (length homes) None
  homes_without_keys f e [] = refl
  homes_without_keys f e (home ∷ homes) = rw (e home) (ap (λ ks. None ∷ ks) (homes_without_keys f e homes))

  module _ (numbers : List ℕ) (homes : List PlaceInGroup) (counts : List ℕ) (given : AreHomes numbers homes counts) where
    heap_empty : (group : ℕ) → group < length counts → heap_at (map (no_keys {K = K}) counts) group ≡ no_keys {K = K} (slice_index counts group)
    heap_empty group l = get_or-map (no_keys {K = K}) counts group 0 [] l

    no_heap_past_end : (group : ℕ) → length counts ≤ group → heap_at (map (no_keys {K = K}) counts) group ≡ []
    no_heap_past_end group l =
        get_or_past (map (no_keys {K = K}) counts) group [] (omega (arith, l, length-map counts (no_keys {K = K})))

    pub no_key_at_any_place : (group place : ℕ) → key_at (heap_at (map (no_keys {K = K}) counts) group) place ≡ None
    no_key_at_any_place group place = go (cases_lt group (length counts))
      where
        go : (group < length counts) ⊎ (length counts ≤ group) → key_at (heap_at (map (no_keys {K = K}) counts) group) place ≡ None
        go (inl l) = ap (λ h. key_at h place) (heap_empty group l) ∙ key_at_no_keys (slice_index counts group) place
        go (inr l) = ap (λ h. key_at h place) (no_heap_past_end group l) ∙ get_or_past [] place None (omega arith)

    pub empty_housed :
        length homes < 2 ^ 32 → All (λ count. count ≤ length homes) counts → IsHoused homes (map (no_keys {K = K}) counts)
    empty_housed few sized = record {
      few = few;
      group_in = λ slot home e. rw (length-map counts (no_keys {K = K})) (given.group_in slot home e);
      place_in = λ slot home e. rw (heap_empty home.group (given.group_in slot home e), length-replicate {A = Option K} (slice_index counts home.group) None) (given.place_in slot home e);
      sized = λ group. size_of group (cases_lt group (length counts));
      apart = given.apart;
      inhabited = λ group place key e. absurd (none_some key (sym (no_key_at_any_place group place) ∙ e));
    }
      where
        none_some : (key : K) → None ≡ Some key → ⊥
        none_some key e = absurd (cc)

        size_of :
            (group : ℕ) → (group < length counts) ⊎ (length counts ≤ group)
            → length (heap_at (map (no_keys {K = K}) counts) group) ≤ length homes
        size_of group (inl l) =
            let count = All-get_or (λ count. count ≤ length homes) counts group 0 l sized in
            rw (heap_empty group l, length-replicate {A = Option K} (slice_index counts group) None) count
        size_of group (inr l) = rw (no_heap_past_end group l) (omega arith)

    pub empty_grouped : grouped homes (map (no_keys {K = K}) counts) ≡ record { keys = replicate (length numbers) None; groups = numbers }
    empty_grouped i = record { keys = keys_are i; groups = given.groups i }
      where
        keys_are : map (key_of_home (map (no_keys {K = K}) counts)) homes ≡ replicate (length numbers) None
        keys_are = homes_without_keys (key_of_home (map (no_keys {K = K}) counts)) (λ home. no_key_at_any_place home.group home.place) homes ∙ ap (λ n. replicate n None) (homes_length numbers homes counts given)
