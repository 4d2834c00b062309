use Rattle.std.proofs.Common.{◌≡◌, ◌<◌, ◌∷◌, [], ℕ, length, slice_get, slice_set, None, refl, sym, ap, subst, ◌∙◌, arith}
use Rattle.std.proofs.lemmas.List.{get_or_past, length-append, length-set, with_items_is}
use Rattle.std.proofs.lemmas.Option.{slice_get_within}
use Rattle.sim_queue.specs.Map.{key_at}
use Rattle.sim_queue.specs.Places.{AreOrderedBut}
use Rattle.sim_queue.specs.Sift.{IsPlaceOf}
use Rattle.sim_queue.specs.TopHeap.{placed, key_there, AreApart, slot_of_item}
use Rattle.sim_queue.proofs.Items.{length-placed, items_fit}
use Rattle.sim_queue.proofs.ItemChanges.{left_apart, left_placed, left_ordered, left_where, rest_apart, rest_placed, rest_ordered, rest_at_their_places}
use Rattle.sim_queue.proofs.Known.{no_key_if_read_item_elsewhere, settled_keys, settled_heap, slot_heap_of_written_vectors, keys_of_written_vectors}
use Rattle.sim_queue.proofs.Maps.{none_set_to_none}
use Rattle.sim_queue.proofs.slot_heap.SlotHeapEventQueue.drop_slot.Goals as goal

pub returns-then-slot-len-clause-dropped : goal.returns-then-slot-len-clause-dropped
returns-then-slot-len-clause-dropped g c =
    let h = c.self.inside in
    none_set_to_none c.args.self.now c.args.slot (get_or_past c.args.self.now c.args.slot None (omega (arith, c.if-slot-len.true, c.len.ensures, h.places.ok.0, ap length c.self.view_is, length-placed (length h.places.items) h.items.items)))

pub settle-requires-clause-few : goal.settle-requires-clause-few
settle-requires-clause-few g c =
    let h = c.self.inside in
    let is = c.self.invariant in
    let items = h.items.items in
    let slots : ℕ = length h.places.items in
    let rest = c.take_last-last.new.self.items in
    let last = c.take_last-last.result in
    let are = c.take_last-last.ensures.items in
    let at : ℕ = c.in-Some.place in
    let there = subst (λ xs. IsPlaceOf slot_of_item xs at c.args.slot) c.deref.ensures.value c.in-Some.ensures.some in
    let fit = items_fit slots items is.apart in
    omega (arith, fit, is.few, ap length c.deref_mut.ensures.value, length-set rest at last, ap length are, length-append rest (last ∷ []))

pub settle-requires-clause-noted : goal.settle-requires-clause-noted
settle-requires-clause-noted g c =
    let h = c.self.inside in
    let is = c.self.invariant in
    let items = h.items.items in
    let slots : ℕ = length h.places.items in
    let rest = c.take_last-last.new.self.items in
    let last = c.take_last-last.result in
    let are = c.take_last-last.ensures.items in
    let at : ℕ = c.in-Some.place in
    let there = subst (λ xs. IsPlaceOf slot_of_item xs at c.args.slot) c.deref.ensures.value c.in-Some.ensures.some in
    let some : at < length rest = omega (arith, c.if-place-len.true, c.len-2.ensures, c.take_last-last.new.self.ok.0) in
    let apart = subst (AreApart slots) (sym c.deref_mut.ensures.value) (left_apart items rest last there.0 at are slots is.apart there.1 some) in
    record {
      within = λ place x e. omega (arith, apart.within place x e, ap length c.deref_mut-then-place-len.ensures.value);
      apart = apart.apart;
      noted = λ place x e n. ap (λ ps. slice_get ps x.slot) c.deref_mut-then-place-len.ensures.value ∙ is.noted place x (left_where items rest last there.0 at are slots is.apart there.1 some place x n (ap (λ xs. slice_get xs place) (sym c.deref_mut.ensures.value) ∙ e));
    }

pub settle-requires-clause-but : goal.settle-requires-clause-but
settle-requires-clause-but g c =
    let h = c.self.inside in
    let is = c.self.invariant in
    let items = h.items.items in
    let slots : ℕ = length h.places.items in
    let rest = c.take_last-last.new.self.items in
    let last = c.take_last-last.result in
    let are = c.take_last-last.ensures.items in
    let at : ℕ = c.in-Some.place in
    let there = subst (λ xs. IsPlaceOf slot_of_item xs at c.args.slot) c.deref.ensures.value c.in-Some.ensures.some in
    let some : at < length rest = omega (arith, c.if-place-len.true, c.len-2.ensures, c.take_last-last.new.self.ok.0) in
    subst (λ xs. AreOrderedBut g.K.EventOrder.before (key_there xs) (length xs) at) (sym c.deref_mut.ensures.value)
    (left_ordered items rest last there.0 at are slots is.apart there.1 some g.K.EventOrder.before g.met.K.EventOrder.laws is.ordered)

pub invariant_of-self : goal.invariant_of-self
invariant_of-self g c =
    let h = c.self.inside in
    let is = c.self.invariant in
    let items = h.items.items in
    let slots : ℕ = length h.places.items in
    let rest = c.take_last-last.new.self.items in
    let last = c.take_last-last.result in
    let are = c.take_last-last.ensures.items in
    let at : ℕ = c.in-Some.place in
    let there = subst (λ xs. IsPlaceOf slot_of_item xs at c.args.slot) c.deref.ensures.value c.in-Some.ensures.some in
    let some : at < length rest = omega (arith, c.if-place-len.true, c.len-2.ensures, c.take_last-last.new.self.ok.0) in
    let apart = subst (AreApart slots) (sym c.deref_mut.ensures.value) (left_apart items rest last there.0 at are slots is.apart there.1 some) in
    let sized : length c.settle.new.places ≡ slots = omega (arith, c.settle.auto.places, ap length c.deref_mut-then-place-len.ensures.value) in
    let places_are = with_items_is h.places c.settle.new.places (omega (arith, h.places.ok.0, sized)) in
    slot_heap_of_written_vectors g.K.EventOrder.before c.take_last-last.new.self.cap _ c.settle.new.items _ c.settle.new.places _ (sym c.deref_mut.ensures.len ∙ sym c.settle.ensures.moved.each) places_are
    (settled_heap c.deref_mut.result.now c.settle.new.items h.places.items c.settle.new.places c.settle.ensures.moved sized apart g.K.EventOrder.before c.take_last-last.new.self.cap (omega (arith, is.reserved, c.take_last-last.ensures.capacity)) is.few c.settle.ensures.noted c.settle.ensures.ordered)

pub invariant_of-self-else-place-len : goal.invariant_of-self-else-place-len
invariant_of-self-else-place-len g c =
    let h = c.self.inside in
    let is = c.self.invariant in
    let items = h.items.items in
    let slots : ℕ = length h.places.items in
    let rest = c.take_last-last.new.self.items in
    let last = c.take_last-last.result in
    let are = c.take_last-last.ensures.items in
    let at : ℕ = c.in-Some.place in
    let there = subst (λ xs. IsPlaceOf slot_of_item xs at c.args.slot) c.deref.ensures.value c.in-Some.ensures.some in
    let within = slice_get_within items at there.0 there.1 in
    let was_last : at ≡ length rest = omega (arith, c.if-place-len.false, c.len-2.ensures, c.take_last-last.new.self.ok.0, within, ap length are, length-append rest (last ∷ [])) in
    record {
      reserved = omega (arith, is.reserved, c.take_last-last.ensures.capacity);
      few = is.few;
      apart = rest_apart items rest last there.0 at are slots is.apart there.1 was_last;
      noted = λ place x e. is.noted place x (rest_at_their_places items rest last there.0 at are slots is.apart there.1 place x e);
      ordered = rest_ordered items rest last there.0 at are slots is.apart there.1 was_last g.K.EventOrder.before is.ordered;
    }

pub returns-then-place-len-clause-dropped : goal.returns-then-place-len-clause-dropped
returns-then-place-len-clause-dropped g c =
    let h = c.self.inside in
    let is = c.self.invariant in
    let items = h.items.items in
    let slots : ℕ = length h.places.items in
    let rest = c.take_last-last.new.self.items in
    let last = c.take_last-last.result in
    let are = c.take_last-last.ensures.items in
    let at : ℕ = c.in-Some.place in
    let there = subst (λ xs. IsPlaceOf slot_of_item xs at c.args.slot) c.deref.ensures.value c.in-Some.ensures.some in
    let some : at < length rest = omega (arith, c.if-place-len.true, c.len-2.ensures, c.take_last-last.new.self.ok.0) in
    let apart = subst (AreApart slots) (sym c.deref_mut.ensures.value) (left_apart items rest last there.0 at are slots is.apart there.1 some) in
    let sized : length c.settle.new.places ≡ slots = omega (arith, c.settle.auto.places, ap length c.deref_mut-then-place-len.ensures.value) in
    let places_are = with_items_is h.places c.settle.new.places (omega (arith, h.places.ok.0, sized)) in
    keys_of_written_vectors _ c.settle.new.items _ c.settle.new.places _ (sym c.deref_mut.ensures.len ∙ sym c.settle.ensures.moved.each) places_are
    ∙ settled_keys c.deref_mut.result.now c.settle.new.items h.places.items c.settle.new.places c.settle.ensures.moved sized apart
    ∙ ap (placed slots) c.deref_mut.ensures.value
    ∙ left_placed items rest last there.0 at are slots is.apart there.1 some
    ∙ ap (λ s. slice_set (placed slots items) s None) there.2
    ∙ ap (λ ks. slice_set ks c.args.slot None) c.self.view_is

pub returns-then-place-len-clause-counted : goal.returns-then-place-len-clause-counted
returns-then-place-len-clause-counted g c =
    let h = c.self.inside in
    let is = c.self.invariant in
    let items = h.items.items in
    let slots : ℕ = length h.places.items in
    let rest = c.take_last-last.new.self.items in
    let last = c.take_last-last.result in
    let are = c.take_last-last.ensures.items in
    let at : ℕ = c.in-Some.place in
    let there = subst (λ xs. IsPlaceOf slot_of_item xs at c.args.slot) c.deref.ensures.value c.in-Some.ensures.some in
    let fit = items_fit slots items is.apart in
    λ k few.
    let counted = c.settle.ensures.counted k (omega (arith, fit, few, ap length c.self.view_is, length-placed slots items, ap length c.deref_mut.ensures.value, length-set rest at last, ap length are, length-append rest (last ∷ []))) in
    omega (arith, counted)

pub returns-else-place-len-clause-dropped : goal.returns-else-place-len-clause-dropped
returns-else-place-len-clause-dropped g c =
    let h = c.self.inside in
    let is = c.self.invariant in
    let items = h.items.items in
    let slots : ℕ = length h.places.items in
    let rest = c.take_last-last.new.self.items in
    let last = c.take_last-last.result in
    let are = c.take_last-last.ensures.items in
    let at : ℕ = c.in-Some.place in
    let there = subst (λ xs. IsPlaceOf slot_of_item xs at c.args.slot) c.deref.ensures.value c.in-Some.ensures.some in
    let within = slice_get_within items at there.0 there.1 in
    let was_last : at ≡ length rest = omega (arith, c.if-place-len.false, c.len-2.ensures, c.take_last-last.new.self.ok.0, within, ap length are, length-append rest (last ∷ [])) in
    rest_placed items rest last there.0 at are slots is.apart there.1 was_last
    ∙ ap (λ s. slice_set (placed slots items) s None) there.2
    ∙ ap (λ ks. slice_set ks c.args.slot None) c.self.view_is

pub returns-in_default-clause-dropped : goal.returns-in_default-clause-dropped
returns-in_default-clause-dropped g c =
    let h = c.self.inside in
    let slot_in : c.args.slot < length h.places.items = omega (arith, c.if-slot-len.false, c.len.ensures, h.places.ok.0) in
    let none = no_key_if_read_item_elsewhere h.items.items c.deref.result.now h.places.items c.deref-2.result.now c.args.slot c.deref.ensures.value c.deref-2.ensures.value (c.in_default.ensures.none refl) slot_in c.self.invariant.noted in
    none_set_to_none c.args.self.now c.args.slot (sym (ap (λ ks. key_at ks c.args.slot) c.self.view_is) ∙ none)
