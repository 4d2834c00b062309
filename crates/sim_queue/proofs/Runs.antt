-- A run with a heap: what the slots have, where the least is, and what a step changes.
use Rattle.std.proofs.Common.{◌≡◌, ◌≢◌, ◌⊎◌, ℕ, zero, suc, ◌-◌, ◌^◌, ◌<◌, ◌≤◌, ◌++◌, ◌∷◌, [], Bool, true, false, List, length, drop, slice_get, slice_set, Option, Some, None, refl, sym, subst, ap, ◌∙◌, arith, inl, inr}
use Rattle.std.specs.Prelude.{not}
use Rattle.std.proofs.lemmas.List.{get_or-set_same, get_or-set_other, length-set, length-append}
use Rattle.std.proofs.lemmas.Option.{same_Some, slice_get_within}
use Rattle.sim_order.specs.Order.{IsOrder}
use Rattle.sim_queue.specs.Item.{Item}
use Rattle.sim_queue.specs.Map.{either, key_at, IsEmptyMap, IsLeast, IsSoleLeast}
use Rattle.sim_queue.specs.TopHeap.{placed, AreApart}
use Rattle.sim_queue.specs.RunHeap.{joined, with_run, AreInOrder, IsBehind, IsAhead, IsNotAhead, IsRun, IsRunFirst, HasOneFirst, IsHeapFirst}
use Rattle.sim_queue.specs.Sift.{Holds}
use Rattle.sim_queue.proofs.Items.{length-placed, key_belongs_to_item, item_has_its_key, items_fit, apart_without_head, item_of}
use Rattle.sim_queue.proofs.ItemChanges.{old_item_or_new, old_item_kept, added_apart, added_placed, placed_without_slot}
use Rattle.sim_queue.proofs.Joined.{length-joined, joined_at, joined_with_empty_first, joined_after_put_in_first, joined_after_drop_in_first, joined_after_set_in_second}
use Rattle.sim_queue.proofs.Maps.{nat_equal_or_not}
use Rattle.sim_queue.proofs.Weak.{before_asymmetric, not_before_transitive}

module _ {K : Type 0} (before : K → K → Bool) (laws : IsOrder before) (run : List (Item K)) (heap : List (Option K)) (is : IsRun before run heap) where
  abbrev run_keys : List (Option K)
  run_keys = placed (length heap) run

  placed_run_length : length run_keys ≡ length heap
  placed_run_length = length-placed (length heap) run

  pub length-with_run : length (with_run run heap) ≡ length heap
  length-with_run = length-joined run_keys heap placed_run_length

  with_run_at_slot : (slot : ℕ) → key_at (with_run run heap) slot ≡ either (key_at run_keys slot) (key_at heap slot)
  with_run_at_slot = joined_at run_keys heap placed_run_length

  pub run_item_has_key : (place : ℕ) (x : Item K) → slice_get run place ≡ Some x → key_at (with_run run heap) x.slot ≡ Some x.key
  run_item_has_key place x e = with_run_at_slot x.slot ∙ ap (λ o. either o (key_at heap x.slot)) (item_has_its_key (length heap) run is.apart place x e)

  pub not_in_run : (slot : ℕ) (k : K) → key_at heap slot ≡ Some k → key_at run_keys slot ≡ None
  not_in_run slot k e = go (key_at run_keys slot) refl
    where
      go : (a : Option K) → key_at run_keys slot ≡ a → key_at run_keys slot ≡ None
      go None f = f
      go (Some j) f =
          let there = key_belongs_to_item (length heap) run slot j f in
          let none : key_at heap slot ≡ None = is.beside there.0 (item_of slot j) there.1 in
          absurd (cc)

  pub heap_key_is_seen : (slot : ℕ) (k : K) → key_at heap slot ≡ Some k → key_at (with_run run heap) slot ≡ Some k
  heap_key_is_seen slot k e = with_run_at_slot slot ∙ ap (λ o. either o (key_at heap slot)) (not_in_run slot k e) ∙ e

  -- a key belongs to an item of the run, or is in the heap
  pub key_in_run_or_heap : (slot : ℕ) (k : K) → key_at (with_run run heap) slot ≡ Some k → Holds run (item_of slot k) ⊎ (key_at heap slot ≡ Some k)
  key_in_run_or_heap slot k e = go (key_at run_keys slot) refl
    where
      go : (a : Option K) → key_at run_keys slot ≡ a → Holds run (item_of slot k) ⊎ (key_at heap slot ≡ Some k)
      go (Some j) f =
          let same : Some j ≡ Some k = sym (with_run_at_slot slot ∙ ap (λ o. either o (key_at heap slot)) f) ∙ e in
          inl (key_belongs_to_item (length heap) run slot k (f ∙ same))
      go None f = inr (sym (with_run_at_slot slot ∙ ap (λ o. either o (key_at heap slot)) f) ∙ e)

  pub free_in_run : (slot : ℕ) → key_at (with_run run heap) slot ≡ None → key_at run_keys slot ≡ None
  free_in_run slot e = go (key_at run_keys slot) refl
    where
      go : (a : Option K) → key_at run_keys slot ≡ a → key_at run_keys slot ≡ None
      go None f = f
      go (Some j) f =
          let has : key_at (with_run run heap) slot ≡ Some j = with_run_at_slot slot ∙ ap (λ o. either o (key_at heap slot)) f in
          absurd (cc)

  pub free_in_heap : (slot : ℕ) → key_at (with_run run heap) slot ≡ None → key_at heap slot ≡ None
  free_in_heap slot e =
      sym (with_run_at_slot slot ∙ ap (λ o. either o (key_at heap slot)) (free_in_run slot e)) ∙ e

  -- a slot without a key is not one of the run
  pub run_fits : (x : Item K) → x.slot < length heap → key_at (with_run run heap) x.slot ≡ None → length run < length heap
  run_fits x slot_in free =
      let fit = items_fit (length heap) _ (added_apart run x (length heap) is.apart slot_in (free_in_run x.slot free)) in
      omega (arith, fit, length-append run (x ∷ []))

  -- the first of the run is the least
  pub least_of_run : (r : IsRunFirst before run heap) → IsLeast before (with_run run heap) r.first.slot r.first.key
  least_of_run r = record {
    has = run_item_has_key 0 r.first r.stands;
    least = λ other k e. go other k (key_in_run_or_heap other k e);
  }
    where
      go : (other : ℕ) (k : K) → Holds run (item_of other k) ⊎ (key_at heap other ≡ Some k) → before k r.first.key ≡ false
      go other k (inr h) = r.least other k h
      go other k (inl (zero, e)) =
          let same : item_of other k ≡ r.first = same_Some (item_of other k) r.first (sym e ∙ r.stands) in
          ap (λ (x : Item K). before x.key r.first.key) same ∙ laws.irreflexive r.first.key
      go other k (inl (suc place, e)) = is.in_order 0 (suc place) r.first (item_of other k) (omega arith) r.stands e

  -- the least of the heap is the least
  pub least_of_heap : IsHeapFirst before run heap → (slot : ℕ) (key : K) → IsLeast before heap slot key → IsLeast before (with_run run heap) slot key
  least_of_heap first slot key least = record {
    has = heap_key_is_seen slot key least.has;
    least = λ other k e. go other k (key_in_run_or_heap other k e);
  }
    where
      go : (other : ℕ) (k : K) → Holds run (item_of other k) ⊎ (key_at heap other ≡ Some k) → before k key ≡ false
      go other k (inr h) = least.least other k h
      go other k (inl there) =
          let one = first there.0 (item_of other k) there.1 in
          not_before_transitive before laws k one.key key one.first (least.least one.slot one.key one.has)

  pub empty_heap_first : IsHeapFirst before run heap → IsEmptyMap heap → IsEmptyMap (with_run run heap)
  empty_heap_first first empty slot = go (key_at (with_run run heap) slot) refl
    where
      none : (k : K) → Holds run (item_of slot k) ⊎ (key_at heap slot ≡ Some k) → ⊥
      none k (inr h) = let no = empty slot in absurd (cc)
      none k (inl there) =
          let one = first there.0 (item_of slot k) there.1 in
          let has = one.has in
          let no = empty one.slot in
          absurd (cc)

      go : (a : Option K) → key_at (with_run run heap) slot ≡ a → key_at (with_run run heap) slot ≡ None
      go None e = e
      go (Some k) e = absurd (none k (key_in_run_or_heap slot k e))

  pub not_empty_run : IsRunFirst before run heap → IsEmptyMap (with_run run heap) → ⊥
  not_empty_run r empty =
      let has = run_item_has_key 0 r.first r.stands in
      let no = empty r.first.slot in
      absurd (cc)

  -- the slot that is taken belongs to the first of the run
  pub sole_least_is_run_first : (r : IsRunFirst before run heap) (slot : ℕ) → IsSoleLeast before (with_run run heap) slot → r.first.slot ≡ slot
  sole_least_is_run_first r slot sole =
      elim (sole.first r.first.slot r.first.key (run_item_has_key 0 r.first r.stands)) [ inl e ↦ e | inr b ↦ (let no = (least_of_run r).least slot sole.key sole.has in absurd (cc)) ]

  -- or one of the heap
  pub sole_in_heap : IsHeapFirst before run heap → (slot : ℕ) → IsSoleLeast before (with_run run heap) slot → IsSoleLeast before heap slot
  sole_in_heap first slot sole = record {
    key = sole.key;
    has = go (key_in_run_or_heap slot sole.key sole.has);
    first = λ other k e. sole.first other k (heap_key_is_seen other k e);
  }
    where
      go : Holds run (item_of slot sole.key) ⊎ (key_at heap slot ≡ Some sole.key) → key_at heap slot ≡ Some sole.key
      go (inr h) = h
      go (inl there) =
          let one = first there.0 (item_of slot sole.key) there.1 in
          let none : key_at heap slot ≡ None = is.beside there.0 (item_of slot sole.key) there.1 in
          let has = one.has in
          let late = one.first in
          elim (sole.first one.slot one.key (heap_key_is_seen one.slot one.key one.has)) [
            | inl s ↦ (let there : key_at heap slot ≡ Some one.key = ap (key_at heap) (sym s) ∙ has in absurd (cc))
            | inr b ↦ absurd (cc)
          ]

  -- what a slot outside the run has in the heap is changed
  module _ (slot : ℕ) (value : Option K) (free : key_at run_keys slot ≡ None) where
    heap_length_unchanged : length (slice_set heap slot value) ≡ length heap
    heap_length_unchanged = length-set heap slot value

    run_slots_differ : (place : ℕ) (x : Item K) → slice_get run place ≡ Some x → x.slot ≢ slot
    run_slots_differ place x e s =
        let has : key_at run_keys slot ≡ Some x.key = ap (key_at run_keys) (sym s) ∙ item_has_its_key (length heap) run is.apart place x e in
        absurd (cc)

    pub changed_run : IsRun before run (slice_set heap slot value)
    changed_run = record {
      few = omega (arith, is.few, heap_length_unchanged);
      apart = subst (λ n. AreApart n run) (sym heap_length_unchanged) is.apart;
      beside = λ place x e. get_or-set_other heap slot x.slot value None (run_slots_differ place x e) ∙ is.beside place x e;
      in_order = is.in_order;
    }

    pub changed_keys : with_run run (slice_set heap slot value) ≡ slice_set (with_run run heap) slot value
    changed_keys =
        ap (λ n. joined (placed n run) (slice_set heap slot value)) heap_length_unchanged ∙ joined_after_set_in_second run_keys heap placed_run_length slot value free

    -- where it had no key
    pub still_heap_first : key_at heap slot ≡ None → IsHeapFirst before run heap → IsHeapFirst before run (slice_set heap slot value)
    still_heap_first none first place x e =
        let one = first place x e in
        let has = one.has in
        let other : one.slot ≢ slot = λ s. (let there : key_at heap slot ≡ Some one.key = ap (key_at heap) (sym s) ∙ has in absurd (cc)) in
        record { slot = one.slot; key = one.key; has = get_or-set_other heap slot one.slot value None other ∙ has; first = one.first }

  -- an item is appended to the run
  module _ (x : Item K) (slot_in : x.slot < length heap) (free : key_at (with_run run heap) x.slot ≡ None) (behind : IsBehind before run x) where
    abbrev run_with_new_last : List (Item K)
    run_with_new_last = run ++ x ∷ []

    pub added_run : IsRun before run_with_new_last heap
    added_run = record {
      few = is.few;
      apart = added_apart run x (length heap) is.apart slot_in (free_in_run x.slot free);
      beside = λ place y e. elim (old_item_or_new run x place y e) [ inl p ↦ is.beside place y p.1 | inr p ↦ subst (λ (z : Item K). key_at heap z.slot ≡ None) p.1 (free_in_heap x.slot free) ];
      in_order = λ one other y z h e f. go one other y z h (old_item_or_new run x one y e) (old_item_or_new run x other z f);
    }
      where
        go : (one other : ℕ) (y z : Item K) → one < other → ((one < length run) × (slice_get run one ≡ Some y)) ⊎ ((one ≡ length run) × (x ≡ y)) → ((other < length run) × (slice_get run other ≡ Some z)) ⊎ ((other ≡ length run) × (x ≡ z)) → before z.key y.key ≡ false
        go one other y z h (inl p) (inl q) = is.in_order one other y z h p.1 q.1
        go one other y z h (inl p) (inr q) = subst (λ (w : Item K). before w.key y.key ≡ false) q.1 (behind one y p.1)
        go one other y z h (inr p) (inl q) = absurd (omega (arith, h, p.0, q.0))
        go one other y z h (inr p) (inr q) = absurd (omega (arith, h, p.0, q.0))

    pub added_keys : with_run run_with_new_last heap ≡ slice_set (with_run run heap) x.slot (Some x.key)
    added_keys =
        ap (λ ks. joined ks heap) (added_placed run x (length heap) is.apart slot_in (free_in_run x.slot free)) ∙ joined_after_put_in_first run_keys heap placed_run_length x.slot x.key

    pub run_still_first : IsRunFirst before run heap → IsRunFirst before run_with_new_last heap
    run_still_first r = record { first = r.first; stands = old_item_kept run x 0 r.first r.stands; least = r.least }

    pub heap_still_first : (y : Item K) → slice_get run 0 ≡ Some y → IsHeapFirst before run heap → IsHeapFirst before run_with_new_last heap
    heap_still_first y stands first place z e = go (old_item_or_new run x place z e)
      where
        go : ((place < length run) × (slice_get run place ≡ Some z)) ⊎ ((place ≡ length run) × (x ≡ z)) → HasOneFirst before heap z
        go (inl p) = first place z p.1
        go (inr p) =
            let one = first 0 y stands in
            subst (HasOneFirst before heap) p.1
            (record { slot = one.slot; key = one.key; has = one.has; first = not_before_transitive before laws x.key y.key one.key (behind 0 y stands) one.first })

  -- an item is put before the first of the run
  pub new_first_in_order : (x : Item K) → IsAhead before run x → AreInOrder before (x ∷ run)
  new_first_in_order x ahead zero zero y z h e f = absurd (omega (arith, h))
  new_first_in_order x ahead zero (suc other) y z h e f = subst (λ (w : Item K). before z.key w.key ≡ false) (same_Some x y e) (ahead other z f)
  new_first_in_order x ahead (suc one) zero y z h e f = absurd (omega (arith, h))
  new_first_in_order x ahead (suc one) (suc other) y z h e f = is.in_order one other y z (omega (arith, h)) e f

  module _ (x : Item K) (slot_in : x.slot < length heap) (free : key_at (with_run run heap) x.slot ≡ None) where
    abbrev run_with_new_first : List (Item K)
    run_with_new_first = x ∷ run

    new_slot_not_in_run : (place : ℕ) (y : Item K) → slice_get run place ≡ Some y → y.slot ≢ x.slot
    new_slot_not_in_run place y e s =
        let has : key_at run_keys x.slot ≡ Some y.key = ap (key_at run_keys) (sym s) ∙ item_has_its_key (length heap) run is.apart place y e in
        let none = free_in_run x.slot free in
        absurd (cc)

    pub new_first_apart : AreApart (length heap) run_with_new_first
    new_first_apart = record { within = within; apart = apart }
      where
        within : (place : ℕ) (y : Item K) → slice_get run_with_new_first place ≡ Some y → y.slot < length heap
        within zero y e = subst (λ (z : Item K). z.slot < length heap) (same_Some x y e) slot_in
        within (suc place) y e = is.apart.within place y e

        apart : (one other : ℕ) (y z : Item K) → slice_get run_with_new_first one ≡ Some y → slice_get run_with_new_first other ≡ Some z → y.slot ≡ z.slot → one ≡ other
        apart zero zero y z e f s = refl
        apart zero (suc other) y z e f s = absurd (new_slot_not_in_run other z f (sym s ∙ ap (λ (w : Item K). w.slot) (sym (same_Some x y e))))
        apart (suc one) zero y z e f s = absurd (new_slot_not_in_run one y e (s ∙ ap (λ (w : Item K). w.slot) (sym (same_Some x z f))))
        apart (suc one) (suc other) y z e f s = ap suc (is.apart.apart one other y z e f s)

    pub new_first_keys : with_run run_with_new_first heap ≡ slice_set (with_run run heap) x.slot (Some x.key)
    unfolding placed
    new_first_keys = joined_after_put_in_first run_keys heap placed_run_length x.slot x.key

    module _ (ahead : IsAhead before run x) where
      pub new_first_run : IsRun before run_with_new_first heap
      new_first_run = record { few = is.few; apart = new_first_apart; beside = beside; in_order = new_first_in_order x ahead }
        where
          beside : (place : ℕ) (y : Item K) → slice_get run_with_new_first place ≡ Some y → key_at heap y.slot ≡ None
          beside zero y e = subst (λ (z : Item K). key_at heap z.slot ≡ None) (same_Some x y e) (free_in_heap x.slot free)
          beside (suc place) y e = is.beside place y e

      pub new_first_is_first : IsRunFirst before run heap → IsRunFirst before run_with_new_first heap
      new_first_is_first r = record {
        first = x;
        stands = refl;
        least = λ slot k e. not_before_transitive before laws k r.first.key x.key (r.least slot k e) (ahead 0 r.first r.stands);
      }

    -- it goes into the heap, since it is not before the first
    pub first_after_heap_put : IsNotAhead before run x → IsRunFirst before run heap → IsRunFirst before run (slice_set heap x.slot (Some x.key))
    first_after_heap_put late r = record { first = r.first; stands = r.stands; least = λ slot k e. go slot k e (nat_equal_or_not slot x.slot) }
      where
        go : (slot : ℕ) (k : K) → key_at (slice_set heap x.slot (Some x.key)) slot ≡ Some k → (slot ≡ x.slot) ⊎ (slot ≢ x.slot) → before k r.first.key ≡ false
        go slot k e (inl s) =
            let same : x.key ≡ k = same_Some x.key k (sym (get_or-set_same heap x.slot (Some x.key) None slot_in) ∙ ap (key_at (slice_set heap x.slot (Some x.key))) (sym s) ∙ e) in
            subst (λ j. before j r.first.key ≡ false) same (late r.first r.stands)
        go slot k e (inr n) = r.least slot k (sym (get_or-set_other heap x.slot slot (Some x.key) None n) ∙ e)

-- the first item leaves the run
module _ {K : Type 0} (before : K → K → Bool) (laws : IsOrder before) (x : Item K) (rest : List (Item K)) (heap : List (Option K)) (is : IsRun before (x ∷ rest) heap) where
  pub run_without_first : IsRun before rest heap
  run_without_first = record {
    few = is.few;
    apart = apart_without_head (length heap) x rest is.apart;
    beside = λ place y e. is.beside (suc place) y e;
    in_order = λ one other y z h e f. is.in_order (suc one) (suc other) y z (omega (arith, h)) e f;
  }

  pub keys_without_first : with_run rest heap ≡ slice_set (with_run (x ∷ rest) heap) x.slot None
  keys_without_first =
      ap (λ ks. joined ks heap) (placed_without_slot (length heap) (x ∷ rest) rest x.slot is.apart run_without_first.apart (is.apart.within 0 x refl) from to)
      ∙ joined_after_drop_in_first (placed (length heap) (x ∷ rest)) heap (length-placed (length heap) (x ∷ rest)) x.slot (is.beside 0 x refl)
    where
      from : (y : Item K) → Holds rest y → Holds (x ∷ rest) y × (y.slot ≢ x.slot)
      from y h =
          ((suc h.0, h.1), λ s. (let same : suc h.0 ≡ 0 = is.apart.apart (suc h.0) 0 y x h.1 refl s in omega (arith, same)))

      to : (y : Item K) → Holds (x ∷ rest) y → y.slot ≢ x.slot → Holds rest y
      to y (zero, e) n = let same : x ≡ y = same_Some x y e in absurd (n (ap (λ (z : Item K). z.slot) (sym same)))
      to y (suc place, e) n = (place, e)

-- whether the run or the heap has the least
module _ {K : Type 0} (before : K → K → Bool) (laws : IsOrder before) (run : List (Item K)) (heap : List (Option K)) where
  pub run_is_first : (first : Item K) → slice_get run 0 ≡ Some first → (slot : ℕ) (top : K) → IsLeast before heap slot top → before top first.key ≡ false → IsRunFirst before run heap
  run_is_first first stands slot top least late = record {
    first = first;
    stands = stands;
    least = λ other k e. not_before_transitive before laws k top first.key (least.least other k e) late;
  }

  pub heap_is_first : AreInOrder before run → (first : Item K) → slice_get run 0 ≡ Some first → (slot : ℕ) (top : K) → IsLeast before heap slot top → before top first.key ≡ true → IsHeapFirst before run heap
  heap_is_first in_order first stands slot top least early place x e = record { slot = slot; key = top; has = least.has; first = go place e }
    where
      late : before first.key top ≡ false
      late = before_asymmetric before laws top first.key early

      go : (at : ℕ) → slice_get run at ≡ Some x → before x.key top ≡ false
      go zero f = subst (λ (y : Item K). before y.key top ≡ false) (same_Some first x (sym stands ∙ f)) late
      go (suc at) f = not_before_transitive before laws x.key first.key top (in_order 0 (suc at) first x (omega arith) stands f) late

-- an item after a run
module _ {K : Type 0} (before : K → K → Bool) (laws : IsOrder before) (run : List (Item K)) where
  -- an item that is not before the last is before none
  pub behind_if_not_before_last : AreInOrder before run → (last x : Item K) → slice_get run (length run - 1) ≡ Some last → before x.key last.key ≡ false → IsBehind before run x
  behind_if_not_before_last in_order last x stands late place y e = go (nat_equal_or_not place (length run - 1))
    where
      within : place < length run
      within = slice_get_within run place y e

      go : (place ≡ length run - 1) ⊎ (place ≢ length run - 1) → before x.key y.key ≡ false
      go (inl s) = subst (λ (z : Item K). before x.key z.key ≡ false) (same_Some last y (sym stands ∙ ap (slice_get run) (sym s) ∙ e)) late
      go (inr n) = not_before_transitive before laws x.key last.key y.key late (in_order place (length run - 1) y last (omega (arith, within, n)) e stands)

  -- an item that is before the first is before all
  pub ahead_if_before_first : AreInOrder before run → (first x : Item K) → slice_get run 0 ≡ Some first → before x.key first.key ≡ true → IsAhead before run x
  ahead_if_before_first in_order first x stands early place y e = go place e
    where
      late : before first.key x.key ≡ false
      late = before_asymmetric before laws x.key first.key early

      go : (at : ℕ) → slice_get run at ≡ Some y → before y.key x.key ≡ false
      go zero f = subst (λ (z : Item K). before z.key x.key ≡ false) (same_Some first y (sym stands ∙ f)) late
      go (suc at) f = not_before_transitive before laws y.key first.key x.key (in_order 0 (suc at) first y (omega arith) stands f) late

  pub not_ahead_if_not_before_first : (first x : Item K) → slice_get run 0 ≡ Some first → before x.key first.key ≡ false → IsNotAhead before run x
  not_ahead_if_not_before_first first x stands late y e = subst (λ (z : Item K). before x.key z.key ≡ false) (same_Some first y (sym stands ∙ e)) late

  pub ahead_of_empty_run : (x : Item K) → length run ≡ 0 → IsAhead before run x
  ahead_of_empty_run x none place y e = let within = slice_get_within run place y e in absurd (omega (arith, within, none))

-- the run is empty
module _ {K : Type 0} (before : K → K → Bool) (heap : List (Option K)) where
  pub no_run_keys : with_run [] heap ≡ heap
  unfolding placed
  no_run_keys = joined_with_empty_first heap

module _ {K : Type 0} where
  -- a list with a first item
  pub run_from_first : (run : List (Item K)) (x : Item K) → slice_get run 0 ≡ Some x → run ≡ x ∷ drop 1 run
  run_from_first [] x e = absurd (cc)
  run_from_first (y ∷ run) x e = ap (λ z. z ∷ run) (same_Some y x e)

  pub first_of_nonempty : (run : List (Item K)) → 0 < length run → (x : Item K) × (slice_get run 0 ≡ Some x)
  first_of_nonempty [] h = absurd (omega (arith, h))
  first_of_nonempty (x ∷ run) h = (x, refl)

-- the opposite of a test
pub not_true_is_false : (b : Bool) → not b ≡ true → b ≡ false
not_true_is_false false e = refl
not_true_is_false true e = absurd (cc)

pub not_false_is_true : (b : Bool) → not b ≡ false → b ≡ true
not_false_is_true true e = refl
not_false_is_true false e = absurd (cc)

-- with two slots or more, another comparison is within the bound
pub exponent_positive_if_power_at_least_two : (k : ℕ) → 2 ≤ 2 ^ k → 1 ≤ k
exponent_positive_if_power_at_least_two zero h = absurd (omega (arith, h))
exponent_positive_if_power_at_least_two (suc k) h = omega arith
