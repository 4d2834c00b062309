use Rattle.std.proofs.Common.{◌≡◌, ◌<◌, ◌+◌, ◌++◌, ◌∷◌, [], ℕ, List, length, set, take, drop, refl, sym, ap, ◌∙◌, subst, arith}
use Rattle.std.proofs.lemmas.List.{length-append, length-drop, length-set, length-take-le, take_at}
use Rattle.goal_graph.specs.declared.action.Timed.{Timed}
use Rattle.sim_order.specs.Events.{event_before}
use Rattle.sim_queue.specs.Item.{Item}
use Rattle.sim_queue.specs.Places.{AreOrdered, AreOrderedBut}
use Rattle.sim_queue.specs.Sift.{AreMoved}
use Rattle.sim_queue.specs.TopHeap.{placed, key_there, IsSlotHeap}
use Rattle.sim_stations.proofs.SlotParts.{take_with_entered, AreListedBut, fits, replaced_noted, replaced_but, replaced_heap, replaced_keys, one_more, entered_noted, entered_but, entered_heap, entered_keys}
use Rattle.sim_stations.proofs.slot_heaps.write.Goals as goal

pub settle-requires-clause-noted : goal.settle-requires-clause-noted
settle-requires-clause-noted g c =
    let items = c.args.items.now in
    let places = c.args.places.now in
    let count = c.args.count in
    let slot = c.args.slot in
    let item = c.args.item in
    let size : ℕ = length items in
    let front = take count items in
    let heap = c.requires.heap in
    let many : length front ≡ count = length-take-le count items c.requires.room in
    let at : ℕ = c.in-Some.place in
    let there = c.in-Some.ensures.some in
    replaced_noted front places size heap slot item c.requires.item at there

pub settle-requires-clause-but : goal.settle-requires-clause-but
settle-requires-clause-but g c =
    let items = c.args.items.now in
    let places = c.args.places.now in
    let count = c.args.count in
    let slot = c.args.slot in
    let item = c.args.item in
    let size : ℕ = length items in
    let front = take count items in
    let heap = c.requires.heap in
    let many : length front ≡ count = length-take-le count items c.requires.room in
    let at : ℕ = c.in-Some.place in
    let there = c.in-Some.ensures.some in
    replaced_but front places size heap slot item c.requires.item at there

pub slice_bounds-front-end-in-None : goal.slice_bounds-front-end-in-None
slice_bounds-front-end-in-None g c =
    let items = c.args.items.now in
    let places = c.args.places.now in
    let count = c.args.count in
    let slot = c.args.slot in
    let item = c.args.item in
    let size : ℕ = length items in
    let front = take count items in
    let heap = c.requires.heap in
    let many : length front ≡ count = length-take-le count items c.requires.room in
    let elsewhere = c.in-None.ensures.none refl in
    let more = one_more front places size heap slot item c.requires.item c.requires.slot_in elsewhere in
    let count_in : count < size = omega (arith, more, many, heap.reserved) in
    let at : set (take (count + 1) items) count item ≡ front ++ item ∷ [] = take_with_entered items count item count_in in
    omega (arith, count_in)

pub slice_bounds-front-end-in-None-2 : goal.slice_bounds-front-end-in-None-2
slice_bounds-front-end-in-None-2 g c =
    let items = c.args.items.now in
    let places = c.args.places.now in
    let count = c.args.count in
    let slot = c.args.slot in
    let item = c.args.item in
    let size : ℕ = length items in
    let front = take count items in
    let heap = c.requires.heap in
    let many : length front ≡ count = length-take-le count items c.requires.room in
    let elsewhere = c.in-None.ensures.none refl in
    let more = one_more front places size heap slot item c.requires.item c.requires.slot_in elsewhere in
    let count_in : count < size = omega (arith, more, many, heap.reserved) in
    let at : set (take (count + 1) items) count item ≡ front ++ item ∷ [] = take_with_entered items count item count_in in
    sym (length-take-le (count + 1) items (omega (arith, count_in)))

pub bounds-front-last : goal.bounds-front-last
bounds-front-last g c =
    let items = c.args.items.now in
    let places = c.args.places.now in
    let count = c.args.count in
    let slot = c.args.slot in
    let item = c.args.item in
    let size : ℕ = length items in
    let front = take count items in
    let heap = c.requires.heap in
    let many : length front ≡ count = length-take-le count items c.requires.room in
    let elsewhere = c.in-None.ensures.none refl in
    let more = one_more front places size heap slot item c.requires.item c.requires.slot_in elsewhere in
    let count_in : count < size = omega (arith, more, many, heap.reserved) in
    let at : set (take (count + 1) items) count item ≡ front ++ item ∷ [] = take_with_entered items count item count_in in
    omega (arith, length-take-le (count + 1) items (omega (arith, count_in)))

pub rise-requires-clause-last : goal.rise-requires-clause-last
rise-requires-clause-last g c =
    let items = c.args.items.now in
    let places = c.args.places.now in
    let count = c.args.count in
    let slot = c.args.slot in
    let item = c.args.item in
    let size : ℕ = length items in
    let front = take count items in
    let heap = c.requires.heap in
    let many : length front ≡ count = length-take-le count items c.requires.room in
    let elsewhere = c.in-None.ensures.none refl in
    let more = one_more front places size heap slot item c.requires.item c.requires.slot_in elsewhere in
    let count_in : count < size = omega (arith, more, many, heap.reserved) in
    let at : set (take (count + 1) items) count item ≡ front ++ item ∷ [] = take_with_entered items count item count_in in
    omega (arith, ap length at, length-append front (item ∷ []), many)

pub rise-requires-clause-few : goal.rise-requires-clause-few
rise-requires-clause-few g c =
    let items = c.args.items.now in
    let places = c.args.places.now in
    let count = c.args.count in
    let slot = c.args.slot in
    let item = c.args.item in
    let size : ℕ = length items in
    let front = take count items in
    let heap = c.requires.heap in
    let many : length front ≡ count = length-take-le count items c.requires.room in
    let elsewhere = c.in-None.ensures.none refl in
    let more = one_more front places size heap slot item c.requires.item c.requires.slot_in elsewhere in
    let count_in : count < size = omega (arith, more, many, heap.reserved) in
    let at : set (take (count + 1) items) count item ≡ front ++ item ∷ [] = take_with_entered items count item count_in in
    omega (arith, ap length at, length-append front (item ∷ []), more, heap.few)

pub rise-requires-clause-noted : goal.rise-requires-clause-noted
rise-requires-clause-noted g c =
    let items = c.args.items.now in
    let places = c.args.places.now in
    let count = c.args.count in
    let slot = c.args.slot in
    let item = c.args.item in
    let size : ℕ = length items in
    let front = take count items in
    let heap = c.requires.heap in
    let many : length front ≡ count = length-take-le count items c.requires.room in
    let elsewhere = c.in-None.ensures.none refl in
    let more = one_more front places size heap slot item c.requires.item c.requires.slot_in elsewhere in
    let count_in : count < size = omega (arith, more, many, heap.reserved) in
    let at : set (take (count + 1) items) count item ≡ front ++ item ∷ [] = take_with_entered items count item count_in in
    subst (λ (xs : List (Item Timed)). AreListedBut xs places count) (sym at)
    (subst (AreListedBut (front ++ item ∷ []) places) many (entered_noted front places size heap slot item c.requires.item c.requires.slot_in elsewhere))

pub rise-requires-clause-but : goal.rise-requires-clause-but
rise-requires-clause-but g c =
    let items = c.args.items.now in
    let places = c.args.places.now in
    let count = c.args.count in
    let slot = c.args.slot in
    let item = c.args.item in
    let size : ℕ = length items in
    let front = take count items in
    let heap = c.requires.heap in
    let many : length front ≡ count = length-take-le count items c.requires.room in
    let elsewhere = c.in-None.ensures.none refl in
    let more = one_more front places size heap slot item c.requires.item c.requires.slot_in elsewhere in
    let count_in : count < size = omega (arith, more, many, heap.reserved) in
    let at : set (take (count + 1) items) count item ≡ front ++ item ∷ [] = take_with_entered items count item count_in in
    subst (λ (xs : List (Item Timed)). AreOrderedBut event_before (key_there xs) (length xs) count) (sym at)
    (subst (AreOrderedBut event_before (key_there (front ++ item ∷ [])) (length (front ++ item ∷ []))) many (entered_but front places size heap slot item c.requires.item c.requires.slot_in elsewhere))

pub overflow_add-result : goal.overflow_add-result
overflow_add-result g c =
    let items = c.args.items.now in
    let places = c.args.places.now in
    let count = c.args.count in
    let slot = c.args.slot in
    let item = c.args.item in
    let size : ℕ = length items in
    let front = take count items in
    let heap = c.requires.heap in
    let many : length front ≡ count = length-take-le count items c.requires.room in
    let elsewhere = c.in-None.ensures.none refl in
    let more = one_more front places size heap slot item c.requires.item c.requires.slot_in elsewhere in
    let count_in : count < size = omega (arith, more, many, heap.reserved) in
    let at : set (take (count + 1) items) count item ≡ front ++ item ∷ [] = take_with_entered items count item count_in in
    omega (arith, more, many, heap.few)

pub returns-in-Some-clause-heap : goal.returns-in-Some-clause-heap
returns-in-Some-clause-heap g c =
    let items = c.args.items.now in
    let places = c.args.places.now in
    let count = c.args.count in
    let slot = c.args.slot in
    let item = c.args.item in
    let size : ℕ = length items in
    let front = take count items in
    let heap = c.requires.heap in
    let many : length front ≡ count = length-take-le count items c.requires.room in
    let at : ℕ = c.in-Some.place in
    let there = c.in-Some.ensures.some in
    let new = c.settle.new.items in
    let ps = c.settle.new.places in
    let each : length new ≡ count = omega (arith, c.settle.ensures.moved.each, length-set front at item, many) in
    let whole : take count (new ++ drop count items) ≡ new = take_at new (drop count items) count each in
    let long : length (new ++ drop count items) ≡ size = omega (arith, length-append new (drop count items), length-drop count items, each, c.requires.room) in
    let sized : length ps ≡ length places = omega (arith, c.settle.auto.places) in
    subst (λ (xs : List (Item Timed)). IsSlotHeap event_before xs ps (length (new ++ drop count items))) (sym whole)
    (subst (IsSlotHeap event_before new ps) (sym long)
    (replaced_heap front places size heap slot item c.requires.item at there new ps c.settle.ensures.moved sized c.settle.ensures.noted c.settle.ensures.ordered))

pub returns-in-Some-clause-put : goal.returns-in-Some-clause-put
returns-in-Some-clause-put g c =
    let items = c.args.items.now in
    let places = c.args.places.now in
    let count = c.args.count in
    let slot = c.args.slot in
    let item = c.args.item in
    let size : ℕ = length items in
    let front = take count items in
    let heap = c.requires.heap in
    let many : length front ≡ count = length-take-le count items c.requires.room in
    let at : ℕ = c.in-Some.place in
    let there = c.in-Some.ensures.some in
    let new = c.settle.new.items in
    let ps = c.settle.new.places in
    let each : length new ≡ count = omega (arith, c.settle.ensures.moved.each, length-set front at item, many) in
    let whole : take count (new ++ drop count items) ≡ new = take_at new (drop count items) count each in
    let long : length (new ++ drop count items) ≡ size = omega (arith, length-append new (drop count items), length-drop count items, each, c.requires.room) in
    let sized : length ps ≡ length places = omega (arith, c.settle.auto.places) in
    ap (placed (length ps)) whole ∙ replaced_keys front places size heap slot item c.requires.item at there new ps c.settle.ensures.moved sized

pub returns-in-Some-clause-counted : goal.returns-in-Some-clause-counted
returns-in-Some-clause-counted g c =
    let items = c.args.items.now in
    let places = c.args.places.now in
    let count = c.args.count in
    let slot = c.args.slot in
    let item = c.args.item in
    let size : ℕ = length items in
    let front = take count items in
    let heap = c.requires.heap in
    let many : length front ≡ count = length-take-le count items c.requires.room in
    let at : ℕ = c.in-Some.place in
    let there = c.in-Some.ensures.some in
    λ k few.
    let counted = c.settle.ensures.counted k (omega (arith, few, fits front places size heap slot, length-set front at item)) in
    omega (arith, counted)

pub returns-in-None-clause-room : goal.returns-in-None-clause-room
returns-in-None-clause-room g c =
    let items = c.args.items.now in
    let places = c.args.places.now in
    let count = c.args.count in
    let slot = c.args.slot in
    let item = c.args.item in
    let size : ℕ = length items in
    let front = take count items in
    let heap = c.requires.heap in
    let many : length front ≡ count = length-take-le count items c.requires.room in
    let elsewhere = c.in-None.ensures.none refl in
    let more = one_more front places size heap slot item c.requires.item c.requires.slot_in elsewhere in
    let count_in : count < size = omega (arith, more, many, heap.reserved) in
    let at : set (take (count + 1) items) count item ≡ front ++ item ∷ [] = take_with_entered items count item count_in in
    let new = c.rise.new.items in
    let ps = c.rise.new.places in
    let moved = subst (λ (xs : List (Item Timed)). AreMoved xs new) at c.rise.ensures.moved in
    let ordered = subst (λ (xs : List (Item Timed)). AreOrdered event_before (key_there new) (length xs)) at c.rise.ensures.ordered in
    let each : length new ≡ count + 1 = omega (arith, moved.each, length-append front (item ∷ []), many) in
    let whole : take (count + 1) (new ++ drop (count + 1) items) ≡ new = take_at new (drop (count + 1) items) (count + 1) each in
    let long : length (new ++ drop (count + 1) items) ≡ size = omega (arith, length-append new (drop (count + 1) items), length-drop (count + 1) items, each, count_in) in
    let sized : length ps ≡ length places = omega (arith, c.rise.auto.places) in
    omega (arith, long, count_in)

pub returns-in-None-clause-heap : goal.returns-in-None-clause-heap
returns-in-None-clause-heap g c =
    let items = c.args.items.now in
    let places = c.args.places.now in
    let count = c.args.count in
    let slot = c.args.slot in
    let item = c.args.item in
    let size : ℕ = length items in
    let front = take count items in
    let heap = c.requires.heap in
    let many : length front ≡ count = length-take-le count items c.requires.room in
    let elsewhere = c.in-None.ensures.none refl in
    let more = one_more front places size heap slot item c.requires.item c.requires.slot_in elsewhere in
    let count_in : count < size = omega (arith, more, many, heap.reserved) in
    let at : set (take (count + 1) items) count item ≡ front ++ item ∷ [] = take_with_entered items count item count_in in
    let new = c.rise.new.items in
    let ps = c.rise.new.places in
    let moved = subst (λ (xs : List (Item Timed)). AreMoved xs new) at c.rise.ensures.moved in
    let ordered = subst (λ (xs : List (Item Timed)). AreOrdered event_before (key_there new) (length xs)) at c.rise.ensures.ordered in
    let each : length new ≡ count + 1 = omega (arith, moved.each, length-append front (item ∷ []), many) in
    let whole : take (count + 1) (new ++ drop (count + 1) items) ≡ new = take_at new (drop (count + 1) items) (count + 1) each in
    let long : length (new ++ drop (count + 1) items) ≡ size = omega (arith, length-append new (drop (count + 1) items), length-drop (count + 1) items, each, count_in) in
    let sized : length ps ≡ length places = omega (arith, c.rise.auto.places) in
    subst (λ (xs : List (Item Timed)). IsSlotHeap event_before xs ps (length (new ++ drop (count + 1) items))) (sym whole)
    (subst (IsSlotHeap event_before new ps) (sym long)
    (entered_heap front places size heap slot item c.requires.item c.requires.slot_in elsewhere new ps moved sized c.rise.ensures.noted ordered))

pub returns-in-None-clause-put : goal.returns-in-None-clause-put
returns-in-None-clause-put g c =
    let items = c.args.items.now in
    let places = c.args.places.now in
    let count = c.args.count in
    let slot = c.args.slot in
    let item = c.args.item in
    let size : ℕ = length items in
    let front = take count items in
    let heap = c.requires.heap in
    let many : length front ≡ count = length-take-le count items c.requires.room in
    let elsewhere = c.in-None.ensures.none refl in
    let more = one_more front places size heap slot item c.requires.item c.requires.slot_in elsewhere in
    let count_in : count < size = omega (arith, more, many, heap.reserved) in
    let at : set (take (count + 1) items) count item ≡ front ++ item ∷ [] = take_with_entered items count item count_in in
    let new = c.rise.new.items in
    let ps = c.rise.new.places in
    let moved = subst (λ (xs : List (Item Timed)). AreMoved xs new) at c.rise.ensures.moved in
    let ordered = subst (λ (xs : List (Item Timed)). AreOrdered event_before (key_there new) (length xs)) at c.rise.ensures.ordered in
    let each : length new ≡ count + 1 = omega (arith, moved.each, length-append front (item ∷ []), many) in
    let whole : take (count + 1) (new ++ drop (count + 1) items) ≡ new = take_at new (drop (count + 1) items) (count + 1) each in
    let long : length (new ++ drop (count + 1) items) ≡ size = omega (arith, length-append new (drop (count + 1) items), length-drop (count + 1) items, each, count_in) in
    let sized : length ps ≡ length places = omega (arith, c.rise.auto.places) in
    ap (placed (length ps)) whole ∙ entered_keys front places size heap slot item c.requires.item c.requires.slot_in elsewhere new ps moved sized

pub returns-in-None-clause-counted : goal.returns-in-None-clause-counted
returns-in-None-clause-counted g c =
    let items = c.args.items.now in
    let places = c.args.places.now in
    let count = c.args.count in
    let slot = c.args.slot in
    let item = c.args.item in
    let size : ℕ = length items in
    let front = take count items in
    let heap = c.requires.heap in
    let many : length front ≡ count = length-take-le count items c.requires.room in
    let elsewhere = c.in-None.ensures.none refl in
    let more = one_more front places size heap slot item c.requires.item c.requires.slot_in elsewhere in
    let count_in : count < size = omega (arith, more, many, heap.reserved) in
    let at : set (take (count + 1) items) count item ≡ front ++ item ∷ [] = take_with_entered items count item count_in in
    λ k few.
    let counted = c.rise.ensures.counted k (omega (arith, few, more, ap length at, length-append front (item ∷ []))) in
    omega (arith, counted)
