-- A heap whose slots know their places, after the key of one slot was changed.
use Rattle.std.proofs.Common.{◌≡◌, ◌<◌, ◌≤◌, ◌+◌, ◌-◌, ◌++◌, ◌∷◌, [], ℕ, List, length, set, take, slice_get, slice_set, Option, Some, None, sym, ap, ◌∙◌, subst, arith}
use Rattle.std.proofs.lemmas.List.{length-set, length-append, length-take-le, take_all, take-take, take_more, take_more_set}
use Rattle.std.proofs.lemmas.Option.{get_or_from_slice_get}
use Rattle.goal_graph.specs.declared.action.Timed.{Timed}
use Rattle.sim_order.specs.Events.{event_before}
use Rattle.sim_order.specs.EventLaws.{event_laws}
use Rattle.sim_queue.specs.Item.{Item}
use Rattle.sim_queue.specs.Map.{key_at}
use Rattle.sim_queue.specs.Places.{AreOrdered, AreOrderedBut}
use Rattle.sim_queue.specs.Sift.{AreMoved, AreNotedBut, IsPlaceOf, IsElsewhere}
use Rattle.sim_queue.specs.TopHeap.{placed, key_there, slot_of_item, AreApart, ArePlaced, IsSlotHeap}
use Rattle.sim_queue.proofs.ForCallers.{added_apart, added_ordered, added_placed, get_set_other, items_fit, known_but_last, left_apart, left_ordered, left_placed, left_where, no_key_if_item_elsewhere, replaced_apart, replaced_ordered, replaced_placed, rest_apart, rest_ordered, rest_placed, rest_at_their_places, settled_heap, settled_keys}

-- the last of the first places is written
pub take_with_entered : {X : Type 0} (xs : List X) (n : ℕ) (y : X) → n < length xs → set (take (n + 1) xs) n y ≡ take n xs ++ y ∷ []
take_with_entered xs n y h =
    let long : length (take (n + 1) xs) ≡ n + 1 = length-take-le (n + 1) xs (omega (arith, h)) in
    sym (take_all (n + 1) (set (take (n + 1) xs) n y) (omega (arith, long, length-set (take (n + 1) xs) n y)))
    ∙ take_more_set (take (n + 1) xs) n y (omega (arith, long))
    ∙ ap (λ ys. ys ++ y ∷ []) (take-take n (n + 1) xs (omega arith))

-- the first n places are the first n - 1, followed by the last of them
pub take_is_front_and_last : {X : Type 0} (xs : List X) (n : ℕ) (y : X) → 0 < n → n ≤ length xs → slice_get xs (n - 1) ≡ Some y → take n xs ≡ take (n - 1) xs ++ y ∷ []
take_is_front_and_last xs n y some room e =
    let more : n ≡ n - 1 + 1 = omega (arith, some) in
    ap (λ m. take m xs) more ∙ take_more xs (n - 1) y (omega (arith, some, room)) ∙ ap (λ z. take (n - 1) xs ++ z ∷ []) (get_or_from_slice_get xs (n - 1) y y e)

-- how many places a list has, and what it notes
abbrev pub size_of_list : List ℕ → Option ℕ
size_of_list places = Some (length places)

abbrev pub is_noted : List ℕ → ℕ → ℕ → Type 0
is_noted places slot place = slice_get places slot ≡ Some place

abbrev pub AreListedBut : List (Item Timed) → List ℕ → ℕ → Type 0
AreListedBut = AreNotedBut slot_of_item size_of_list is_noted

module _ (front : List (Item Timed)) (places : List ℕ) (capacity : ℕ) (heap : IsSlotHeap event_before front places capacity) (slot : ℕ) where
  abbrev slots : ℕ
  slots = length places

  pub fits : length front ≤ slots
  fits = items_fit slots front heap.apart

  -- an item instead of another
  module _ (x : Item Timed) (same : x.slot ≡ slot) (at : ℕ) (there : IsPlaceOf slot_of_item front at slot) where
    was_slot : there.0.slot ≡ x.slot
    was_slot = there.2 ∙ sym same

    apart : AreApart slots (set front at x)
    apart = replaced_apart front x there.0 at slots heap.apart there.1 was_slot

    pub replaced_noted : AreListedBut (set front at x) places at
    replaced_noted = record {
      within = apart.within;
      apart = apart.apart;
      noted = λ place y e n. heap.noted place y (sym (get_set_other front at place x n) ∙ e);
    }

    pub replaced_but : AreOrderedBut event_before (key_there (set front at x)) (length (set front at x)) at
    replaced_but = replaced_ordered front x there.0 at slots heap.apart there.1 was_slot event_before event_laws heap.ordered

    module _ (new : List (Item Timed)) (new_places : List ℕ) (moved : AreMoved (set front at x) new) (sized : length new_places ≡ slots) where
      pub replaced_heap : ArePlaced new new_places → AreOrdered event_before (key_there new) (length (set front at x)) → IsSlotHeap event_before new new_places capacity
      replaced_heap known ordered =
          settled_heap (set front at x) new places new_places moved sized apart event_before capacity heap.reserved heap.few known ordered

      pub replaced_keys : placed (length new_places) new ≡ slice_set (placed slots front) slot (Some x.key)
      replaced_keys =
          settled_keys (set front at x) new places new_places moved sized apart
          ∙ replaced_placed front x there.0 at slots heap.apart there.1 was_slot
          ∙ ap (λ s. slice_set (placed slots front) s (Some x.key)) same

  -- another item
  module _ (x : Item Timed) (same : x.slot ≡ slot) (slot_in : slot < slots) (elsewhere : IsElsewhere slot_of_item front places slot) where
    free : key_at (placed slots front) x.slot ≡ None
    free = ap (key_at (placed slots front)) same ∙ no_key_if_item_elsewhere slots front places slot slot_in heap.noted elsewhere

    x_in : x.slot < slots
    x_in = subst (λ s. s < slots) (sym same) slot_in

    more_apart : AreApart slots (front ++ x ∷ [])
    more_apart = added_apart front x slots heap.apart x_in free

    pub one_more : length front + 1 ≤ slots
    one_more = omega (arith, items_fit slots (front ++ x ∷ []) more_apart, length-append front (x ∷ []))

    pub entered_noted : AreListedBut (front ++ x ∷ []) places (length front)
    entered_noted = record {
      within = more_apart.within;
      apart = more_apart.apart;
      noted = λ place y e n. known_but_last front x places (length front) (λ i. length front) heap.noted place y e n;
    }

    pub entered_but : AreOrderedBut event_before (key_there (front ++ x ∷ [])) (length (front ++ x ∷ [])) (length front)
    entered_but = added_ordered front x event_before heap.ordered

    module _ (new : List (Item Timed)) (new_places : List ℕ) (moved : AreMoved (front ++ x ∷ []) new) (sized : length new_places ≡ slots) where
      pub entered_heap : ArePlaced new new_places → AreOrdered event_before (key_there new) (length (front ++ x ∷ [])) → IsSlotHeap event_before new new_places capacity
      entered_heap known ordered =
          settled_heap (front ++ x ∷ []) new places new_places moved sized more_apart event_before capacity heap.reserved heap.few known ordered

      pub entered_keys : placed (length new_places) new ≡ slice_set (placed slots front) slot (Some x.key)
      entered_keys =
          settled_keys (front ++ x ∷ []) new places new_places moved sized more_apart
          ∙ added_placed front x slots heap.apart x_in free
          ∙ ap (λ s. slice_set (placed slots front) s (Some x.key)) same

  -- an item is removed
  module _ (rest : List (Item Timed)) (last : Item Timed) (are : front ≡ rest ++ last ∷ []) (at : ℕ) (there : IsPlaceOf slot_of_item front at slot) where
    module _ (some : at < length rest) where
      less_apart : AreApart slots (set rest at last)
      less_apart = left_apart front rest last there.0 at are slots heap.apart there.1 some

      pub left_noted : AreListedBut (set rest at last) places at
      left_noted = record {
        within = less_apart.within;
        apart = less_apart.apart;
        noted = λ place y e n. heap.noted place y (left_where front rest last there.0 at are slots heap.apart there.1 some place y n e);
      }

      pub left_but : AreOrderedBut event_before (key_there (set rest at last)) (length (set rest at last)) at
      left_but = left_ordered front rest last there.0 at are slots heap.apart there.1 some event_before event_laws heap.ordered

      module _ (new : List (Item Timed)) (new_places : List ℕ) (moved : AreMoved (set rest at last) new) (sized : length new_places ≡ slots) where
        pub left_heap : ArePlaced new new_places → AreOrdered event_before (key_there new) (length (set rest at last)) → IsSlotHeap event_before new new_places capacity
        left_heap known ordered =
            settled_heap (set rest at last) new places new_places moved sized less_apart event_before capacity heap.reserved heap.few known ordered

        pub left_keys : placed (length new_places) new ≡ slice_set (placed slots front) slot None
        left_keys =
            settled_keys (set rest at last) new places new_places moved sized less_apart
            ∙ left_placed front rest last there.0 at are slots heap.apart there.1 some
            ∙ ap (λ s. slice_set (placed slots front) s None) there.2

    module _ (was_last : at ≡ length rest) where
      pub rest_heap : IsSlotHeap event_before rest places capacity
      rest_heap = record {
        reserved = heap.reserved;
        few = heap.few;
        apart = rest_apart front rest last there.0 at are slots heap.apart there.1 was_last;
        noted = λ place y e. heap.noted place y (rest_at_their_places front rest last there.0 at are slots heap.apart there.1 place y e);
        ordered = rest_ordered front rest last there.0 at are slots heap.apart there.1 was_last event_before heap.ordered;
      }

      pub rest_keys : placed slots rest ≡ slice_set (placed slots front) slot None
      rest_keys =
          rest_placed front rest last there.0 at are slots heap.apart there.1 was_last ∙ ap (λ s. slice_set (placed slots front) s None) there.2
