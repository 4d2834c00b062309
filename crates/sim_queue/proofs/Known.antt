-- A heap of items whose places are known.
use Rattle.std.proofs.Common.{◌≡◌, ◌≢◌, ◌⊎◌, ◌++◌, ◌∷◌, [], ℕ, ◌<◌, ◌≤◌, ◌^◌, Bool, List, length, slice_get, slice_index, take, Option, Some, None, refl, sym, subst, ap, ◌∙◌, arith, inl, inr}
use Rattle.std.proofs.lemmas.Option.{same_Some, slice_get-get_or}
use Rattle.sim_queue.specs.Item.{Item}
use Rattle.sim_queue.specs.Map.{key_at}
use Rattle.sim_queue.specs.Places.{AreOrdered}
use Rattle.sim_queue.specs.Sift.{AreMoved, IsPlaceOf, IsElsewhere}
use Rattle.sim_queue.specs.TopHeap.{placed, key_there, slot_of_item, AreApart, ArePlaced, IsSlotHeap}
use Rattle.sim_queue.proofs.Items.{item_of, key_belongs_to_item, item_has_its_key, moved_apart, moved_placed}
use Rattle.sim_queue.proofs.ItemChanges.{old_item_or_new}
use Rattle.sim_queue.proofs.Placed.{part_written_back}

module _ {K : Type 0} where
  -- the item at the place of a slot has the slot's key
  pub known_key : (slots : ℕ) (items : List (Item K)) → AreApart slots items → (place slot : ℕ) (r : Item K) → IsPlaceOf slot_of_item items place slot → slice_get items place ≡ Some r → key_at (placed slots items) slot ≡ Some r.key
  known_key slots items are place slot r there e =
      let same : there.0 ≡ r = same_Some there.0 r (sym there.1 ∙ e) in
      ap (key_at (placed slots items)) (sym there.2 ∙ ap (λ (z : Item K). z.slot) same) ∙ item_has_its_key slots items are place r e

  -- a slot has no key if no item of it is at its place
  pub no_key_if_item_elsewhere : (slots : ℕ) (items : List (Item K)) (places : List ℕ) (slot : ℕ) → slot < length places → ArePlaced items places → IsElsewhere slot_of_item items places slot → key_at (placed slots items) slot ≡ None
  no_key_if_item_elsewhere slots items places slot slot_in known none = go (key_at (placed slots items) slot) refl
    where
      go : (a : Option K) → key_at (placed slots items) slot ≡ a → key_at (placed slots items) slot ≡ None
      go None e = e
      go (Some k) e =
          let there = key_belongs_to_item slots items slot k e in
          let same : slice_index places slot ≡ there.0 = same_Some (slice_index places slot) there.0 (sym (slice_get-get_or places slot 0 slot_in) ∙ known there.0 (item_of slot k) there.1) in
          absurd (none (item_of slot k) (ap (slice_get items) same ∙ there.1) refl)

  -- the same for lists as the code reads them
  pub no_key_if_read_item_elsewhere : (items read : List (Item K)) (places read_places : List ℕ) (slot : ℕ) → read ≡ items → read_places ≡ places → IsElsewhere slot_of_item read read_places slot → slot < length places → ArePlaced items places → key_at (placed (length places) items) slot ≡ None
  no_key_if_read_item_elsewhere items read places read_places slot e f none slot_in known =
      no_key_if_item_elsewhere (length places) items places slot slot_in known (subst (λ xs. IsElsewhere slot_of_item xs places slot) e (subst (λ ps. IsElsewhere slot_of_item read ps slot) f none))

  -- an item was added at the end, and the places of the others are known
  pub known_but_last : (items : List (Item K)) (x : Item K) (places : List ℕ) (last : ℕ) → last ≡ length items → ArePlaced items places → (place : ℕ) (y : Item K) → slice_get (items ++ x ∷ []) place ≡ Some y → place ≢ last → slice_get places y.slot ≡ Some place
  known_but_last items x places last is_last known place y e n = go (old_item_or_new items x place y e)
    where
      go : ((place < length items) × (slice_get items place ≡ Some y)) ⊎ ((place ≡ length items) × (x ≡ y)) → slice_get places y.slot ≡ Some place
      go (inl p) = known place y p.1
      go (inr p) = absurd (n (p.0 ∙ sym is_last))

  -- the items were moved until the order held
  module _ (items moved : List (Item K)) (places new_places : List ℕ) (are_moved : AreMoved items moved) (sized : length new_places ≡ length places) (are : AreApart (length places) items) where
    pub settled_keys : placed (length new_places) moved ≡ placed (length places) items
    settled_keys =
        ap (λ n. placed n moved) sized ∙ moved_placed (length places) items moved are_moved are

    pub settled_heap : (before : K → K → Bool) (capacity : ℕ) → length places ≤ capacity → length places < 2 ^ 32 → ArePlaced moved new_places → AreOrdered before (key_there moved) (length items) → IsSlotHeap before moved new_places capacity
    settled_heap before capacity reserved few known ordered = record {
      reserved = omega (arith, reserved, sized);
      few = omega (arith, few, sized);
      apart = subst (λ n. AreApart n moved) (sym sized) (moved_apart (length places) items moved are_moved are);
      noted = known;
      ordered = subst (AreOrdered before (key_there moved)) (sym are_moved.each) ordered;
    }

  -- the same in the vectors that were written
  pub slot_heap_of_written_vectors : (before : K → K → Bool) (capacity n : ℕ) (xs rest : List (Item K)) (ps now : List ℕ) → n ≡ length xs → now ≡ ps → IsSlotHeap before xs ps capacity → IsSlotHeap before (take n (xs ++ rest)) now capacity
  slot_heap_of_written_vectors before capacity n xs rest ps now e f heap =
      subst (λ ys. IsSlotHeap before ys now capacity) (sym (part_written_back n xs rest e)) (subst (λ qs. IsSlotHeap before xs qs capacity) (sym f) heap)

  pub keys_of_written_vectors : (n : ℕ) (xs rest : List (Item K)) (ps now : List ℕ) → n ≡ length xs → now ≡ ps → placed (length now) (take n (xs ++ rest)) ≡ placed (length ps) xs
  keys_of_written_vectors n xs rest ps now e f =
      ap (placed (length now)) (part_written_back n xs rest e) ∙ ap (λ qs. placed (length qs) xs) f
