-- A heap of items, after one was appended and after its top was removed.
use Rattle.std.proofs.Common.{◌≡◌, ◌≢◌, ◌<◌, ◌≤◌, ◌+◌, ◌-◌, ◌++◌, ◌∷◌, [], ℕ, suc, List, length, set, take, get_or, slice_get, slice_set, Some, None, refl, sym, ap, ◌∙◌, subst, arith}
use Rattle.std.proofs.lemmas.List.{length-set, length-append, length-take-le, take_all, take_at, take_more, take_more_set, get_or-set_other}
use Rattle.std.proofs.lemmas.Option.{slice_get_within}
use Rattle.goal_limits.specs.declared.limits.TheConstants.{MAX_OPS}
use Rattle.goal_graph.specs.declared.action.Timed.{Timed}
use Rattle.sim_order.specs.Events.{event_before}
use Rattle.sim_order.specs.EventLaws.{event_laws}
use Rattle.sim_queue.specs.Item.{Item}
use Rattle.sim_queue.specs.Map.{key_at, IsSoleLeast}
use Rattle.sim_queue.specs.Places.{AreOrdered, AreOrderedBut}
use Rattle.sim_queue.specs.Sift.{AreMoved}
use Rattle.sim_queue.specs.TopHeap.{placed, key_there, AreApart, IsTopHeap}
use Rattle.sim_queue.proofs.ForCallers.{added_apart, added_placed, added_ordered, taken_apart, taken_placed, taken_ordered, emptied_placed, moved_apart, moved_placed, key_at_no_keys}
use Rattle.sim_stations.specs.Parts.{all_but_last}

module _ {X : Type 0} (xs : List X) (some : 0 < length xs) where
  pub length-front : length (all_but_last xs) + 1 ≡ length xs
  length-front =
      omega (arith, some, length-take-le (length xs - 1) xs (omega arith))

  -- its last item is written
  pub set_last : (n : ℕ) (y : X) → n + 1 ≡ length xs → set xs n y ≡ all_but_last xs ++ y ∷ []
  set_last n y e =
      let front : n ≡ length xs - 1 = omega (arith, e) in
      sym (take_all (n + 1) (set xs n y) (omega (arith, e, length-set xs n y))) ∙ take_more_set xs n y (omega (arith, e)) ∙ ap (λ m. take m xs ++ y ∷ []) front

  -- a list is the items before its last, followed by the last
  pub front_and_last : (n : ℕ) (d : X) → n + 1 ≡ length xs → xs ≡ all_but_last xs ++ get_or xs n d ∷ []
  front_and_last n d e =
      let front : n ≡ length xs - 1 = omega (arith, e) in
      sym (take_all (n + 1) xs (omega (arith, e))) ∙ take_more xs n d (omega (arith, e)) ∙ ap (λ m. take m xs ++ get_or xs n d ∷ []) front

-- the items before the only one of a rest
pub front_of_single_rest : {X : Type 0} (new rest : List X) → length rest ≡ 1 → all_but_last (new ++ rest) ≡ new
front_of_single_rest new rest one = take_at new rest (length (new ++ rest) - 1) (omega (arith, length-append new rest, one))

-- another item, which has risen
module _ (front : List (Item Timed)) (x : Item Timed) (slots : ℕ) (heap : IsTopHeap event_before front slots slots) (slot_in : x.slot < slots) (free : key_at (placed slots front) x.slot ≡ None) where
  pub apart_with_new : AreApart slots (front ++ x ∷ [])
  apart_with_new = added_apart front x slots heap.apart slot_in free

  pub entered_ordered : (n : ℕ) → n ≡ length front → AreOrderedBut event_before (key_there (front ++ x ∷ [])) (length (front ++ x ∷ [])) n
  entered_ordered n e =
      subst (AreOrderedBut event_before (key_there (front ++ x ∷ [])) (length (front ++ x ∷ []))) (sym e) (added_ordered front x event_before heap.ordered)

  module _ (new : List (Item Timed)) (moved : AreMoved (front ++ x ∷ []) new) where
    pub entered_heap : AreOrdered event_before (key_there new) (length (front ++ x ∷ [])) → IsTopHeap event_before new slots slots
    entered_heap ordered = record {
      reserved = omega arith;
      few = heap.few;
      apart = moved_apart slots (front ++ x ∷ []) new moved apart_with_new;
      ordered = subst (AreOrdered event_before (key_there new)) (sym moved.each) ordered;
    }

    pub entered_placed : placed slots new ≡ slice_set (placed slots front) x.slot (Some x.key)
    entered_placed = moved_placed slots (front ++ x ∷ []) new moved apart_with_new ∙ added_placed front x slots heap.apart slot_in free

-- no items
pub no_items_heap : (items : List (Item Timed)) (slots : ℕ) → length items ≡ 0 → slots ≤ MAX_OPS → IsTopHeap event_before items slots slots
no_items_heap items slots none few = record {
  reserved = omega arith;
  few = few;
  apart = record {
    within = λ place y e. absurd (nothing place y e);
    apart = λ a b y z e f s. absurd (nothing a y e);
  };
  ordered = λ place child is_child h. absurd (omega (arith, h, none));
}
  where
    nothing : (place : ℕ) (y : Item Timed) → slice_get items place ≡ Some y → ⊥
    nothing place y e = omega (arith, slice_get_within items place y e, none)

-- the top is removed
module _ (items front : List (Item Timed)) (last : Item Timed) (are : items ≡ front ++ last ∷ []) (slots slot : ℕ) (heap : IsTopHeap event_before items slots slots) (sole : IsSoleLeast event_before (placed slots items) slot) where
  pub placed_without_only_item : length front ≡ 0 → placed slots front ≡ slice_set (placed slots items) slot None
  placed_without_only_item none = emptied_placed event_before event_laws slots items heap.apart heap.ordered slot sole front last are none

  module _ (some : 0 < length front) where
    pub left_ordered : AreOrderedBut event_before (key_there (set front 0 last)) (length (set front 0 last)) 0
    left_ordered = taken_ordered event_before event_laws slots items heap.apart heap.ordered slot sole front last are some

    pub left_apart : AreApart slots (set front 0 last)
    left_apart = taken_apart event_before event_laws slots items heap.apart heap.ordered slot sole front last are some

    module _ (new : List (Item Timed)) (moved : AreMoved (set front 0 last) new) where
      pub left_heap : AreOrdered event_before (key_there new) (length (set front 0 last)) → IsTopHeap event_before new slots slots
      left_heap ordered = record {
        reserved = omega arith;
        few = heap.few;
        apart = moved_apart slots (set front 0 last) new moved left_apart;
        ordered = subst (AreOrdered event_before (key_there new)) (sym moved.each) ordered;
      }

      pub left_placed : placed slots new ≡ slice_set (placed slots items) slot None
      left_placed = moved_placed slots (set front 0 last) new moved left_apart ∙ taken_placed event_before event_laws slots items heap.apart heap.ordered slot sole front last are some

-- a slot without an item
pub no_key_without_item : (slots slot : ℕ) (xs : List (Item Timed)) → ((place : ℕ) (y : Item Timed) → slice_get xs place ≡ Some y → y.slot ≢ slot) → key_at (placed slots xs) slot ≡ None
unfolding placed
no_key_without_item slots slot [] other = key_at_no_keys slots slot
no_key_without_item slots slot (x ∷ xs) other =
    get_or-set_other (placed slots xs) x.slot slot (Some x.key) None (λ e. other 0 x refl (sym e))
    ∙ no_key_without_item slots slot xs (λ place y e. other (suc place) y e)
