-- What a store holds after a change of its map.
use Rattle.std.proofs.Common.{ℕ, ◌≡◌, ◌==◌, ◌&&◌, Bool, true, false, cond, List, [], ◌∷◌, Option, Some, None, if◌then◌else◌, refl, sym, ap, ap₂, ◌∙◌, arith, eq-eqb, Vec, Global, ◌+◌, ◌-◌, ◌<◌, ◌≤◌, length, subst, unwrap_or, IsSome, is_some, All, map, Result, Ok, Err, IfOk, ◌^◌}
use Rattle.std.specs.Ordering.{nat_cmp}
use Rattle.std.specs.Option.{option_map, MatchOption}
use Rattle.std.specs.Map.{lookup}
use Rattle.std.specs.BTreeMap.{BTreeMap, get, is_at}
use Rattle.std.proofs.lemmas.Bool.{true≢false}
use Rattle.std.proofs.lemmas.List.Elements.{All-nil, All-cons}
use Rattle.goal_blocks.specs.Values.{Contribution, Value, Store, set_slot}
use Rattle.goal_blocks.specs.Stored.{Place, place_cmp, Kept, written_at, values, entries_of, one_or_none, before, IsSorted, IsSound}
use Rattle.goal_blocks.specs.Weight.{stored}
use Rattle.goal_blocks.specs.Collectives.{initial}
use Rattle.goal_limits.specs.declared.collective.Collective.{Collective}
use Rattle.goal_blocks.proofs.SlotSums.{stored_set, slot_length_at_most_stored}
use Rattle.goal_blocks.proofs.Starts.{initial_sorted}
use Rattle.goal_graph.proofs.ForCallers.{nat_cmp_is_eq, eqb-swapped}
use Rattle.std.specs.Cmp.{tied_then}
use Rattle.goal_limits.specs.Limits.{rank_limit}

-- a place is equal to another if rank and slot are
pub same_place : (rank slot r k : ℕ) → is_at (place_cmp (rank, slot)) (r, k) ≡ ((r == rank) && (k == slot))
same_place rank slot r k =
    sym (tied_then (nat_cmp rank r) (nat_cmp slot k)) ∙ ap₂ (λ (s t : Bool). s && t) (nat_cmp_is_eq rank r ∙ eqb-swapped rank r) (nat_cmp_is_eq slot k ∙ eqb-swapped slot k)

sorted_set : (rank slot : ℕ) (v : Value) (s : Store) → IsSorted v → ((r k : ℕ) → IsSorted (s r k)) → (r k : ℕ) → IsSorted (set_slot rank slot v s r k)
unfolding set_slot
sorted_set rank slot v s sorted each r k = go ((r == rank) && (k == slot))
  where
    go : (b : Bool) → IsSorted (if b then v else s r k)
    go true = sorted
    go false = each r k

equal_to_some_is_some : {A : Type 0} (o : Option A) (x : A) → o ≡ Some x → IsSome o
equal_to_some_is_some o x e = subst (λ p. IsSome p) (sym e) refl

abbrev pub Cells : Type 0
Cells = BTreeMap Place (Vec Contribution Global)

abbrev pub contents : Vec Contribution Global → Value
contents v = v.items

map_contents : (b : Bool) (v : Vec Contribution Global) (o : Option (Vec Contribution Global)) → cond b (Some v.items) (option_map contents o) ≡ option_map contents (cond b (Some v) o)
map_contents true v o = refl
map_contents false v o = refl

lookup_contents : (test : Place → Bool) (es : List (Place × Vec Contribution Global)) → lookup test (entries_of es) ≡ option_map contents (lookup test es)
lookup_contents test [] = refl
lookup_contents test (e ∷ es) = ap (cond (test e.0) (Some e.1.items)) (lookup_contents test es) ∙ map_contents (test e.0) e.1 (lookup test es)

-- the map has what was set at a place
pub written_found : (s : Kept) (m : Cells) → s.written ≡ entries_of m.entries → (a : Place) → written_at s a ≡ option_map contents (get place_cmp m a)
unfolding written_at
written_found s m e a = ap (lookup (is_at (place_cmp a))) e ∙ lookup_contents (is_at (place_cmp a)) m.entries

-- what a store keeps by such a map
abbrev pub kept_of_cells : Collective → ℕ → Cells → Kept
kept_of_cells what ranks m = record { what = what; ranks = ranks; written = entries_of m.entries }

-- a slot that was set has that value
pub value_if_written : (s : Kept) (r k : ℕ) (v : Value) → written_at s (r, k) ≡ Some v → values s r k ≡ v
unfolding values
value_if_written s r k v e = ap (λ (o : Option Value). unwrap_or o (initial s.what s.ranks r k)) e

-- a slot that was not set has its first value
pub value_if_not_written : (s : Kept) (r k : ℕ) → written_at s (r, k) ≡ None → values s r k ≡ initial s.what s.ranks r k
unfolding values
value_if_not_written s r k e = ap (λ (o : Option Value). unwrap_or o (initial s.what s.ranks r k)) e

module _ (what : Collective) (ranks : ℕ) (m n : Cells) (rank slot : ℕ) (v : Vec Contribution Global) (updates : (q : Place) → get place_cmp n q ≡ cond (is_at (place_cmp (rank, slot)) q) (Some v) (get place_cmp m q)) where
  written_after : (r k : ℕ) → written_at (kept_of_cells what ranks n) (r, k) ≡ cond ((r == rank) && (k == slot)) (Some v.items) (written_at (kept_of_cells what ranks m) (r, k))
  written_after r k =
      written_found (kept_of_cells what ranks n) n refl (r, k) ∙ ap (option_map contents) (updates (r, k)) ∙ sym (map_contents (is_at (place_cmp (rank, slot)) (r, k)) v (get place_cmp m (r, k)))
      ∙ ap (λ (b : Bool). cond b (Some v.items) (option_map contents (get place_cmp m (r, k)))) (same_place rank slot r k)
      ∙ ap (cond ((r == rank) && (k == slot)) (Some v.items)) (sym (written_found (kept_of_cells what ranks m) m refl (r, k)))

  value_after : (r k : ℕ) → values (kept_of_cells what ranks n) r k ≡ set_slot rank slot v.items (values (kept_of_cells what ranks m)) r k
  unfolding values set_slot
  value_after r k =
      ap (λ (o : Option Value). unwrap_or o (initial what ranks r k)) (written_after r k) ∙ go ((r == rank) && (k == slot))
    where
      go : (b : Bool) → unwrap_or (cond b (Some v.items) (written_at (kept_of_cells what ranks m) (r, k))) (initial what ranks r k) ≡ (if b then v.items else unwrap_or (written_at (kept_of_cells what ranks m) (r, k)) (initial what ranks r k))
      go true = refl
      go false = refl

  pub values_after : values (kept_of_cells what ranks n) ≡ set_slot rank slot v.items (values (kept_of_cells what ranks m))
  values_after = λ i r k. value_after r k i

  pub set_after : IsSome (written_at (kept_of_cells what ranks n) (rank, slot))
  set_after = go (rank == rank) (slot == slot) (eq-eqb rank rank refl) (eq-eqb slot slot refl) (written_after rank slot)
    where
      go : (a b : Bool) → a ≡ true → b ≡ true → written_at (kept_of_cells what ranks n) (rank, slot) ≡ cond (a && b) (Some v.items) (written_at (kept_of_cells what ranks m) (rank, slot)) → IsSome (written_at (kept_of_cells what ranks n) (rank, slot))
      go true true e f w = equal_to_some_is_some _ v.items w
      go true false e f w = absurd (true≢false (sym f))
      go false b e f w = absurd (true≢false (sym e))

  pub still_set : (k : ℕ) → IsSome (written_at (kept_of_cells what ranks m) (rank, k)) → IsSome (written_at (kept_of_cells what ranks n) (rank, k))
  still_set k some = go ((rank == rank) && (k == slot)) (written_after rank k)
    where
      go : (b : Bool) → written_at (kept_of_cells what ranks n) (rank, k) ≡ cond b (Some v.items) (written_at (kept_of_cells what ranks m) (rank, k)) → IsSome (written_at (kept_of_cells what ranks n) (rank, k))
      go true w = equal_to_some_is_some _ v.items w
      go false w = subst (λ (o : Option Value). IsSome o) (sym w) some

  -- the store is sound after a slot is set
  pub sound_after : (held more : ℕ) → rank < ranks → slot < 2 ^ 32 → IsSorted v.items → IsSound (kept_of_cells what ranks m) held → more ≡ held - length (values (kept_of_cells what ranks m) rank slot) + length v.items → IsSound (kept_of_cells what ranks n) more
  sound_after held more low small sorted sound is = record {
    ranks = sound.ranks;
    sorted = λ r k. sorted_after r k;
    held_is =
        let kept_before = stored_set ranks rank slot v.items (values (kept_of_cells what ranks m)) low small in
        let now : stored ranks (values (kept_of_cells what ranks n)) ≡ stored ranks (set_slot rank slot v.items (values (kept_of_cells what ranks m))) = ap (stored ranks) values_after in
        let most = slot_length_at_most_stored ranks rank slot (values (kept_of_cells what ranks m)) low small in
        omega (arith, kept_before, now, most, is, sound.held_is);
  }
    where
      sorted_after : (r k : ℕ) → IsSorted (values (kept_of_cells what ranks n) r k)
      sorted_after r k =
          subst IsSorted (sym (value_after r k)) (sorted_set rank slot v.items (values (kept_of_cells what ranks m)) sorted sound.sorted r k)

  -- the same by what the store was
  module _ (s : Kept) (is : kept_of_cells what ranks m ≡ s) where
    pub put_values : values (kept_of_cells what ranks n) ≡ set_slot rank slot v.items (values s)
    put_values = values_after ∙ ap (λ (t : Kept). set_slot rank slot v.items (values t)) is

    pub put_still : (k : ℕ) → IsSome (written_at s (rank, k)) → IsSome (written_at (kept_of_cells what ranks n) (rank, k))
    put_still k some = still_set k (subst (λ (t : Kept). IsSome (written_at t (rank, k))) (sym is) some)

module _ (what : Collective) (ranks : ℕ) (m : Cells) (s : Kept) (is : kept_of_cells what ranks m ≡ s) (r k : ℕ) where
  -- what the map has there is the value
  pub value_there : (v : Vec Contribution Global) → Some v ≡ get place_cmp m (r, k) → v.items ≡ values s r k
  value_there v e =
      sym (value_if_written (kept_of_cells what ranks m) r k v.items (written_found (kept_of_cells what ranks m) m refl (r, k) ∙ ap (option_map contents) (sym e))) ∙ ap (λ (t : Kept). values t r k) is

  -- a slot that the map does not have has its first value
  pub value_absent : None ≡ get place_cmp m (r, k) → initial what ranks r k ≡ values s r k
  value_absent e =
      sym (value_if_not_written (kept_of_cells what ranks m) r k (written_found (kept_of_cells what ranks m) m refl (r, k) ∙ ap (option_map contents) (sym e))) ∙ ap (λ (t : Kept). values t r k) is

  pub first_there : (first : Option Contribution) → None ≡ get place_cmp m (r, k) → one_or_none first ≡ initial s.what s.ranks r k → one_or_none first ≡ values s r k
  first_there first e at = at ∙ ap (λ (t : Kept). initial t.what t.ranks r k) (sym is) ∙ value_absent e

  -- what the map has there, or else the first value, is the value
  pub value_or_first_is_value : (old : Option (Vec Contribution Global)) (first : Option Contribution) → old ≡ get place_cmp m (r, k) → one_or_none first ≡ initial s.what s.ranks r k → before old first ≡ values s r k
  value_or_first_is_value None first e at = first_there first e at
  value_or_first_is_value (Some v) first e at = value_there v e

  pub absent_means_not_written : get place_cmp m (r, k) ≡ None → written_at s (r, k) ≡ None
  absent_means_not_written e =
      ap (λ (t : Kept). written_at t (r, k)) (sym is) ∙ written_found (kept_of_cells what ranks m) m refl (r, k) ∙ ap (option_map contents) e

  pub is_set_there : is_some (get place_cmp m (r, k)) ≡ true → IsSome (written_at s (r, k))
  is_set_there e = go (get place_cmp m (r, k)) refl e
    where
      go : (o : Option (Vec Contribution Global)) → get place_cmp m (r, k) ≡ o → is_some o ≡ true → IsSome (written_at s (r, k))
      go None w some = absurd (true≢false (sym some))
      go (Some v) w some = equal_to_some_is_some _ v.items (ap (λ (t : Kept). written_at t (r, k)) (sym is) ∙ written_found (kept_of_cells what ranks m) m refl (r, k) ∙ ap (option_map contents) w)

  pub sorted_there : (held : ℕ) → IsSound (kept_of_cells what ranks m) held → IsSorted (values s r k)
  sorted_there held sound = subst (λ (t : Kept). IsSorted (values t r k)) is (sound.sorted r k)

  -- a slot has at most as many contributions as all slots together
  pub slot_length_at_most_held : (held : ℕ) → IsSound (kept_of_cells what ranks m) held → r < s.ranks → k < 2 ^ 32 → length (values s r k) ≤ held
  slot_length_at_most_held held sound low small =
      let most = slot_length_at_most_stored s.ranks r k (values s) low small in
      let same : stored (kept_of_cells what ranks m).ranks (values (kept_of_cells what ranks m)) ≡ stored s.ranks (values s) = ap (λ (t : Kept). stored t.ranks (values t)) is in
      omega (arith, most, same, sound.held_is)

  pub held_is_stored_count : (held : ℕ) → IsSound (kept_of_cells what ranks m) held → held ≡ stored s.ranks (values s)
  held_is_stored_count held sound = sound.held_is ∙ ap (λ (t : Kept). stored t.ranks (values t)) is

pub sorted_at_equal_value : (x y : Value) → x ≡ y → IsSorted y → IsSorted x
sorted_at_equal_value x y e s = subst IsSorted (sym e) s

-- a store in which no slot was set
pub values_empty : (what : Collective) (ranks : ℕ) (m : Cells) → m.entries ≡ [] → values (kept_of_cells what ranks m) ≡ initial what ranks
values_empty what ranks m e = λ i r k. at r k i
  where
    at : (r k : ℕ) → values (kept_of_cells what ranks m) r k ≡ initial what ranks r k
    at r k = value_if_not_written (kept_of_cells what ranks m) r k (written_found (kept_of_cells what ranks m) m refl (r, k) ∙ ap (λ es. option_map contents (lookup (is_at (place_cmp (r, k))) es)) e)

pub sound_empty : (what : Collective) (ranks : ℕ) (m : Cells) (held : ℕ) → m.entries ≡ [] → ranks ≤ rank_limit → held ≡ stored ranks (initial what ranks) → IsSound (kept_of_cells what ranks m) held
sound_empty what ranks m held e few is = record {
  ranks = few;
  sorted = λ r k. subst (λ (f : Store). IsSorted (f r k)) (sym (values_empty what ranks m e)) (initial_sorted what ranks r k);
  held_is = is ∙ ap (stored ranks) (sym (values_empty what ranks m e));
}

pub all_sorted : (f : ℕ → Value) → ((k : ℕ) → IsSorted (f k)) → (ks : List ℕ) → All IsSorted (map f ks)
all_sorted f each [] = All-nil IsSorted
all_sorted f each (k ∷ ks) = All-cons IsSorted (f k) (map f ks) (each k) (all_sorted f each ks)

-- the list of an optional contribution
pub read_contribution : (first : Option Contribution) (v : Value) → MatchOption first (v ≡ []) (λ c. v ≡ c ∷ []) → v ≡ one_or_none first
read_contribution None v e = e
read_contribution (Some c) v e = e

pub is_some_false_is_none : (o : Option (Vec Contribution Global)) → is_some o ≡ false → None ≡ o
is_some_false_is_none None e = refl
is_some_false_is_none (Some v) e = absurd (true≢false e)

pub ok_sorted : {E : Type 0} (r : Result (Vec Contribution Global) E) (v : Value) → IfOk r (λ w. w.items ≡ v) → IsSorted v → IfOk r (λ w. IsSorted w.items)
ok_sorted (Ok w) v e sorted = sorted_at_equal_value w.items v e sorted
ok_sorted (Err e) v is sorted = tt
