use Rattle.std.proofs.Common.{◌≡◌, ◌<◌, ◌-◌, ◌++◌, ◌∷◌, [], ℕ, List, Some, None, length, take, drop, get_or, slice_get, slice_set, refl, sym, ap, ◌∙◌, subst, arith, rules}
use Rattle.std.proofs.lemmas.List.{length-append, length-drop, length-set, length-take-le, set-get_or, take_at}
use Rattle.std.proofs.lemmas.Option.{slice_get-get_or, slice_get_read, slice_get_within}
use borrow.Author.Rules.{scaled_Fits}
use Rattle.goal_graph.specs.declared.action.Timed.{Timed}
use Rattle.sim_order.specs.Events.{event_before}
use Rattle.sim_queue.specs.Item.{Item}
use Rattle.sim_queue.specs.TopHeap.{placed, IsSlotHeap}
use Rattle.sim_queue.proofs.ForCallers.{no_key_if_item_elsewhere}
use Rattle.sim_stations.proofs.SlotParts.{take_is_front_and_last, fits, left_noted, left_but, left_heap, left_keys, rest_heap, rest_keys}
use Rattle.sim_stations.proofs.slot_heaps.erase.Goals as goal

pub returns-in_default-clause-dropped : goal.returns-in_default-clause-dropped
returns-in_default-clause-dropped g c =
    let items = c.args.items.now in
    let places = c.args.places.now in
    let count : ℕ = c.args.count in
    let slot = c.args.slot in
    let size : ℕ = length items in
    let front = take count items in
    let heap = c.requires.heap in
    let many : length front ≡ count = length-take-le count items c.requires.room in
    let keys = placed (length places) front in
    let none = no_key_if_item_elsewhere (length places) front places slot c.requires.slot_in heap.noted (c.in_default.ensures.none refl) in
    sym (ap (slice_set keys slot) (sym none) ∙ set-get_or keys slot None)

pub overflow_cast-place : goal.overflow_cast-place
overflow_cast-place g c =
    let items = c.args.items.now in
    let places = c.args.places.now in
    let count : ℕ = c.args.count in
    let slot = c.args.slot in
    let size : ℕ = length items in
    let front = take count items in
    let heap = c.requires.heap in
    let many : length front ≡ count = length-take-le count items c.requires.room in
    let at : ℕ = c.in-Some.place in
    let there = c.in-Some.ensures.some in
    let within : at < count = omega (arith, slice_get_within front at there.0 there.1, many) in
    omega (arith, within, fits front places size heap slot, many, heap.few)

pub returns-then-place-left-clause-heap : goal.returns-then-place-left-clause-heap
returns-then-place-left-clause-heap g c =
    let items = c.args.items.now in
    let places = c.args.places.now in
    let count : ℕ = c.args.count in
    let slot = c.args.slot in
    let size : ℕ = length items in
    let front = take count items in
    let heap = c.requires.heap in
    let many : length front ≡ count = length-take-le count items c.requires.room in
    let at : ℕ = c.in-Some.place in
    let there = c.in-Some.ensures.some in
    let within : at < count = omega (arith, slice_get_within front at there.0 there.1, many) in
    let rest = take (count - 1) items in
    let few_left : length rest ≡ count - 1 = length-take-le (count - 1) items (omega (arith, c.requires.room)) in
    let any = there.0 in
    let last = get_or items (count - 1) any in
    let are : front ≡ rest ++ last ∷ [] = take_is_front_and_last items count last (omega (arith, within)) c.requires.room (slice_get-get_or items (count - 1) any (omega (arith, within, c.requires.room))) in
    let was_last : at ≡ length rest = omega (arith, few_left, c.if-place-left.true) in
    rest_heap front places size heap slot rest last are at there was_last

pub returns-then-place-left-clause-dropped : goal.returns-then-place-left-clause-dropped
returns-then-place-left-clause-dropped g c =
    let items = c.args.items.now in
    let places = c.args.places.now in
    let count : ℕ = c.args.count in
    let slot = c.args.slot in
    let size : ℕ = length items in
    let front = take count items in
    let heap = c.requires.heap in
    let many : length front ≡ count = length-take-le count items c.requires.room in
    let at : ℕ = c.in-Some.place in
    let there = c.in-Some.ensures.some in
    let within : at < count = omega (arith, slice_get_within front at there.0 there.1, many) in
    let rest = take (count - 1) items in
    let few_left : length rest ≡ count - 1 = length-take-le (count - 1) items (omega (arith, c.requires.room)) in
    let any = there.0 in
    let last = get_or items (count - 1) any in
    let are : front ≡ rest ++ last ∷ [] = take_is_front_and_last items count last (omega (arith, within)) c.requires.room (slice_get-get_or items (count - 1) any (omega (arith, within, c.requires.room))) in
    let was_last : at ≡ length rest = omega (arith, few_left, c.if-place-left.true) in
    rest_keys front places size heap slot rest last are at there was_last

pub offset_bounds-front-place : goal.offset_bounds-front-place
offset_bounds-front-place g c =
    let items = c.args.items.now in
    let places = c.args.places.now in
    let count : ℕ = c.args.count in
    let slot = c.args.slot in
    let size : ℕ = length items in
    let front = take count items in
    let heap = c.requires.heap in
    let many : length front ≡ count = length-take-le count items c.requires.room in
    let at : ℕ = c.in-Some.place in
    let there = c.in-Some.ensures.some in
    let within : at < count = omega (arith, slice_get_within front at there.0 there.1, many) in
    scaled_Fits c.in-Some.place (length c.args.items.now) _ (omega (arith, within, c.requires.room)) (search rules)

pub bounds-front-place : goal.bounds-front-place
bounds-front-place g c =
    let items = c.args.items.now in
    let places = c.args.places.now in
    let count : ℕ = c.args.count in
    let slot = c.args.slot in
    let size : ℕ = length items in
    let front = take count items in
    let heap = c.requires.heap in
    let many : length front ≡ count = length-take-le count items c.requires.room in
    let at : ℕ = c.in-Some.place in
    let there = c.in-Some.ensures.some in
    let within : at < count = omega (arith, slice_get_within front at there.0 there.1, many) in
    let rest = take (count - 1) items in
    let few_left : length rest ≡ count - 1 = length-take-le (count - 1) items (omega (arith, c.requires.room)) in
    omega (arith, few_left, within, c.if-place-left.false)

pub settle-requires-clause-place : goal.settle-requires-clause-place
settle-requires-clause-place g c =
    let items = c.args.items.now in
    let places = c.args.places.now in
    let count : ℕ = c.args.count in
    let slot = c.args.slot in
    let size : ℕ = length items in
    let front = take count items in
    let heap = c.requires.heap in
    let many : length front ≡ count = length-take-le count items c.requires.room in
    let at : ℕ = c.in-Some.place in
    let there = c.in-Some.ensures.some in
    let within : at < count = omega (arith, slice_get_within front at there.0 there.1, many) in
    let rest = take (count - 1) items in
    let few_left : length rest ≡ count - 1 = length-take-le (count - 1) items (omega (arith, c.requires.room)) in
    omega (arith, length-set rest at c.index-items-left.result, few_left, within, c.if-place-left.false)

pub settle-requires-clause-noted : goal.settle-requires-clause-noted
settle-requires-clause-noted g c =
    let items = c.args.items.now in
    let places = c.args.places.now in
    let count : ℕ = c.args.count in
    let slot = c.args.slot in
    let size : ℕ = length items in
    let front = take count items in
    let heap = c.requires.heap in
    let many : length front ≡ count = length-take-le count items c.requires.room in
    let at : ℕ = c.in-Some.place in
    let there = c.in-Some.ensures.some in
    let within : at < count = omega (arith, slice_get_within front at there.0 there.1, many) in
    let rest = take (count - 1) items in
    let few_left : length rest ≡ count - 1 = length-take-le (count - 1) items (omega (arith, c.requires.room)) in
    let last = c.index-items-left.result in
    let is_last : slice_get items (count - 1) ≡ Some last = slice_get_read items (length items) (count - 1) last refl (omega (arith, within, c.requires.room)) c.index-items-left.is in
    let are : front ≡ rest ++ last ∷ [] = take_is_front_and_last items count last (omega (arith, within)) c.requires.room is_last in
    let some : at < length rest = omega (arith, few_left, within, c.if-place-left.false) in
    left_noted front places size heap slot rest last are at there some

pub settle-requires-clause-but : goal.settle-requires-clause-but
settle-requires-clause-but g c =
    let items = c.args.items.now in
    let places = c.args.places.now in
    let count : ℕ = c.args.count in
    let slot = c.args.slot in
    let size : ℕ = length items in
    let front = take count items in
    let heap = c.requires.heap in
    let many : length front ≡ count = length-take-le count items c.requires.room in
    let at : ℕ = c.in-Some.place in
    let there = c.in-Some.ensures.some in
    let within : at < count = omega (arith, slice_get_within front at there.0 there.1, many) in
    let rest = take (count - 1) items in
    let few_left : length rest ≡ count - 1 = length-take-le (count - 1) items (omega (arith, c.requires.room)) in
    let last = c.index-items-left.result in
    let is_last : slice_get items (count - 1) ≡ Some last = slice_get_read items (length items) (count - 1) last refl (omega (arith, within, c.requires.room)) c.index-items-left.is in
    let are : front ≡ rest ++ last ∷ [] = take_is_front_and_last items count last (omega (arith, within)) c.requires.room is_last in
    let some : at < length rest = omega (arith, few_left, within, c.if-place-left.false) in
    left_but front places size heap slot rest last are at there some

pub returns-clause-heap : goal.returns-clause-heap
returns-clause-heap g c =
    let items = c.args.items.now in
    let places = c.args.places.now in
    let count : ℕ = c.args.count in
    let slot = c.args.slot in
    let size : ℕ = length items in
    let front = take count items in
    let heap = c.requires.heap in
    let many : length front ≡ count = length-take-le count items c.requires.room in
    let at : ℕ = c.in-Some.place in
    let there = c.in-Some.ensures.some in
    let within : at < count = omega (arith, slice_get_within front at there.0 there.1, many) in
    let rest = take (count - 1) items in
    let few_left : length rest ≡ count - 1 = length-take-le (count - 1) items (omega (arith, c.requires.room)) in
    let last = c.index-items-left.result in
    let is_last : slice_get items (count - 1) ≡ Some last = slice_get_read items (length items) (count - 1) last refl (omega (arith, within, c.requires.room)) c.index-items-left.is in
    let are : front ≡ rest ++ last ∷ [] = take_is_front_and_last items count last (omega (arith, within)) c.requires.room is_last in
    let some : at < length rest = omega (arith, few_left, within, c.if-place-left.false) in
    let new = c.settle.new.items in
    let ps = c.settle.new.places in
    let each : length new ≡ count - 1 = omega (arith, c.settle.ensures.moved.each, length-set rest at last, few_left) in
    let whole : take (count - 1) (new ++ drop (count - 1) items) ≡ new = take_at new (drop (count - 1) items) (count - 1) each in
    let long : length (new ++ drop (count - 1) items) ≡ size = omega (arith, length-append new (drop (count - 1) items), length-drop (count - 1) items, each, within, c.requires.room) in
    let sized : length ps ≡ length places = omega (arith, c.settle.auto.places) in
    subst (λ (xs : List (Item Timed)). IsSlotHeap event_before xs ps (length (new ++ drop (count - 1) items))) (sym whole)
    (subst (IsSlotHeap event_before new ps) (sym long)
    (left_heap front places size heap slot rest last are at there some new ps c.settle.ensures.moved sized c.settle.ensures.noted c.settle.ensures.ordered))

pub returns-clause-dropped : goal.returns-clause-dropped
returns-clause-dropped g c =
    let items = c.args.items.now in
    let places = c.args.places.now in
    let count : ℕ = c.args.count in
    let slot = c.args.slot in
    let size : ℕ = length items in
    let front = take count items in
    let heap = c.requires.heap in
    let many : length front ≡ count = length-take-le count items c.requires.room in
    let at : ℕ = c.in-Some.place in
    let there = c.in-Some.ensures.some in
    let within : at < count = omega (arith, slice_get_within front at there.0 there.1, many) in
    let rest = take (count - 1) items in
    let few_left : length rest ≡ count - 1 = length-take-le (count - 1) items (omega (arith, c.requires.room)) in
    let last = c.index-items-left.result in
    let is_last : slice_get items (count - 1) ≡ Some last = slice_get_read items (length items) (count - 1) last refl (omega (arith, within, c.requires.room)) c.index-items-left.is in
    let are : front ≡ rest ++ last ∷ [] = take_is_front_and_last items count last (omega (arith, within)) c.requires.room is_last in
    let some : at < length rest = omega (arith, few_left, within, c.if-place-left.false) in
    let new = c.settle.new.items in
    let ps = c.settle.new.places in
    let each : length new ≡ count - 1 = omega (arith, c.settle.ensures.moved.each, length-set rest at last, few_left) in
    let whole : take (count - 1) (new ++ drop (count - 1) items) ≡ new = take_at new (drop (count - 1) items) (count - 1) each in
    let long : length (new ++ drop (count - 1) items) ≡ size = omega (arith, length-append new (drop (count - 1) items), length-drop (count - 1) items, each, within, c.requires.room) in
    let sized : length ps ≡ length places = omega (arith, c.settle.auto.places) in
    ap (placed (length ps)) whole ∙ left_keys front places size heap slot rest last are at there some new ps c.settle.ensures.moved sized

pub returns-clause-counted : goal.returns-clause-counted
returns-clause-counted g c =
    let items = c.args.items.now in
    let places = c.args.places.now in
    let count : ℕ = c.args.count in
    let slot = c.args.slot in
    let size : ℕ = length items in
    let front = take count items in
    let heap = c.requires.heap in
    let many : length front ≡ count = length-take-le count items c.requires.room in
    let at : ℕ = c.in-Some.place in
    let there = c.in-Some.ensures.some in
    let within : at < count = omega (arith, slice_get_within front at there.0 there.1, many) in
    let rest = take (count - 1) items in
    let few_left : length rest ≡ count - 1 = length-take-le (count - 1) items (omega (arith, c.requires.room)) in
    λ k few.
    let counted = c.settle.ensures.counted k (omega (arith, few, fits front places size heap slot, many, length-set rest at c.index-items-left.result, few_left)) in
    omega (arith, counted)
