use Rattle.std.proofs.Common.{◌<◌, length, Some, refl, sym, ap, subst, ◌∙◌, arith}
use Rattle.std.proofs.lemmas.Option.{slice_get_read, slice_get_within}
use Rattle.sim_queue.specs.Map.{key_at}
use Rattle.sim_queue.specs.Sift.{IsPlaceOf}
use Rattle.sim_queue.specs.TopHeap.{slot_of_item}
use Rattle.sim_queue.proofs.Items.{length-placed}
use Rattle.sim_queue.proofs.Known.{known_key, no_key_if_read_item_elsewhere}
use Rattle.sim_queue.proofs.slot_heap.SlotHeap.key.Goals as goal

pub place_of-requires : goal.place_of-requires
place_of-requires g c =
    let h = c.self.inside in
    omega (arith, c.requires, ap length c.self.view_is, length-placed (length h.places.items) h.items.items, ap length c.deref-2.ensures.value)

pub index-requires : goal.index-requires
index-requires g c =
    let items = c.self.inside.items.items in
    let there = subst (λ xs. IsPlaceOf slot_of_item xs c.in_ok-place.place c.args.slot) c.deref.ensures.value c.in_ok-place.ensures.some in
    let within = slice_get_within items c.in_ok-place.place there.0 there.1 in
    omega (arith, within, c.self.inside.items.ok.0)

pub returns : goal.returns
returns g c =
    let h = c.self.inside in
    let items = h.items.items in
    let there = subst (λ xs. IsPlaceOf slot_of_item xs c.in_ok-place.place c.args.slot) c.deref.ensures.value c.in_ok-place.ensures.some in
    let within = slice_get_within items c.in_ok-place.place there.0 there.1 in
    let r = c.index.result.now in
    ap Some c.key.ensures
    ∙ sym (known_key (length h.places.items) items c.self.invariant.apart c.in_ok-place.place c.args.slot r there (slice_get_read items (length items) c.in_ok-place.place r refl within c.index.ensures))
    ∙ ap (λ ks. key_at ks c.args.slot) c.self.view_is

pub returns-in_err-place : goal.returns-in_err-place
returns-in_err-place g c =
    let h = c.self.inside in
    let slot_in : c.args.slot < length h.places.items = omega (arith, c.requires, ap length c.self.view_is, length-placed (length h.places.items) h.items.items) in
    let none = no_key_if_read_item_elsewhere h.items.items c.deref.result.now h.places.items c.deref-2.result.now c.args.slot c.deref.ensures.value c.deref-2.ensures.value (c.in_err-place.ensures.none refl) slot_in c.self.invariant.noted in
    c.from_residual.ensures ∙ sym (sym (ap (λ ks. key_at ks c.args.slot) c.self.view_is) ∙ none)
