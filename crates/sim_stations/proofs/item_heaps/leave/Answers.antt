use Rattle.std.proofs.Common.{◌≡◌, ◌<◌, ◌+◌, ◌-◌, ◌++◌, ◌∷◌, [], List, Some, length, drop, get_or, slice_get, refl, sym, ap, ◌∙◌, subst, arith}
use Rattle.std.proofs.lemmas.List.{length-set, length-drop}
use Rattle.std.proofs.lemmas.Option.{slice_get_read, get_or_from_slice_get}
use Rattle.goal_graph.specs.declared.action.Timed.{Timed}
use Rattle.sim_order.specs.Events.{event_before}
use Rattle.sim_order.specs.EventLaws.{event_laws}
use Rattle.sim_queue.specs.Item.{Item}
use Rattle.sim_queue.specs.TopHeap.{placed, IsTopHeap}
use Rattle.sim_queue.proofs.ForCallers.{item_of, items_fit, some_items}
use Rattle.sim_stations.specs.Parts.{all_but_last}
use Rattle.sim_stations.proofs.ItemParts.{length-front, front_and_last, front_of_single_rest, placed_without_only_item, left_apart, left_ordered, left_heap, left_placed}
use Rattle.sim_stations.proofs.item_heaps.leave.Goals as goal

pub overflow_sub-left : goal.overflow_sub-left
overflow_sub-left g c =
    let some = some_items event_before event_laws c.args.slots c.args.items.now c.requires.heap.apart c.requires.heap.ordered c.args.slot c.requires.least in
    omega (arith, some)

pub returns-then-left-eq0-clause-taken : goal.returns-then-left-eq0-clause-taken
returns-then-left-eq0-clause-taken g c =
    let items = c.args.items.now in
    let some = some_items event_before event_laws c.args.slots items c.requires.heap.apart c.requires.heap.ordered c.args.slot c.requires.least in
    let any : Item Timed = item_of 0 c.requires.least.key in
    let last : Item Timed = get_or items (length items - 1) any in
    placed_without_only_item items (all_but_last items) last (front_and_last items some (length items - 1) any (omega (arith, some))) c.args.slots c.args.slot c.requires.heap c.requires.least
    (omega (arith, length-front items some, c.if-left-eq0.true))

pub settle-requires-clause-few : goal.settle-requires-clause-few
settle-requires-clause-few g c =
    let items = c.args.items.now in
    let front = all_but_last items in
    let last = c.index-items-left.result in
    let some = some_items event_before event_laws c.args.slots items c.requires.heap.apart c.requires.heap.ordered c.args.slot c.requires.least in
    let many : length front + 1 ≡ length items = length-front items some in
    let left : 0 < length front = omega (arith, many, c.if-left-eq0.false) in
    let at : slice_get items (length items - 1) ≡ Some last = slice_get_read items (length items) (length items - 1) last refl (omega (arith, some)) c.index-items-left.is in
    let are : items ≡ front ++ last ∷ [] = front_and_last items some (length items - 1) last (omega (arith, some)) ∙ ap (λ y. front ++ y ∷ []) (get_or_from_slice_get items (length items - 1) last last at) in
    omega (arith, items_fit c.args.slots items c.requires.heap.apart, c.requires.heap.few, length-set front 0 last, many)

pub settle-requires-clause-but : goal.settle-requires-clause-but
settle-requires-clause-but g c =
    let items = c.args.items.now in
    let front = all_but_last items in
    let last = c.index-items-left.result in
    let some = some_items event_before event_laws c.args.slots items c.requires.heap.apart c.requires.heap.ordered c.args.slot c.requires.least in
    let many : length front + 1 ≡ length items = length-front items some in
    let left : 0 < length front = omega (arith, many, c.if-left-eq0.false) in
    let at : slice_get items (length items - 1) ≡ Some last = slice_get_read items (length items) (length items - 1) last refl (omega (arith, some)) c.index-items-left.is in
    let are : items ≡ front ++ last ∷ [] = front_and_last items some (length items - 1) last (omega (arith, some)) ∙ ap (λ y. front ++ y ∷ []) (get_or_from_slice_get items (length items - 1) last last at) in
    left_ordered items front last are c.args.slots c.args.slot c.requires.heap c.requires.least left

pub settle-requires-clause-noted : goal.settle-requires-clause-noted
settle-requires-clause-noted g c =
    let items = c.args.items.now in
    let front = all_but_last items in
    let last = c.index-items-left.result in
    let some = some_items event_before event_laws c.args.slots items c.requires.heap.apart c.requires.heap.ordered c.args.slot c.requires.least in
    let many : length front + 1 ≡ length items = length-front items some in
    let left : 0 < length front = omega (arith, many, c.if-left-eq0.false) in
    let at : slice_get items (length items - 1) ≡ Some last = slice_get_read items (length items) (length items - 1) last refl (omega (arith, some)) c.index-items-left.is in
    let are : items ≡ front ++ last ∷ [] = front_and_last items some (length items - 1) last (omega (arith, some)) ∙ ap (λ y. front ++ y ∷ []) (get_or_from_slice_get items (length items - 1) last last at) in
    let each = left_apart items front last are c.args.slots c.args.slot c.requires.heap c.requires.least left in
    record { within = λ place y e. tt; apart = each.apart; noted = λ place y e n. tt }

pub returns-clause-heap : goal.returns-clause-heap
returns-clause-heap g c =
    let items = c.args.items.now in
    let front = all_but_last items in
    let last = c.index-items-left.result in
    let some = some_items event_before event_laws c.args.slots items c.requires.heap.apart c.requires.heap.ordered c.args.slot c.requires.least in
    let many : length front + 1 ≡ length items = length-front items some in
    let left : 0 < length front = omega (arith, many, c.if-left-eq0.false) in
    let at : slice_get items (length items - 1) ≡ Some last = slice_get_read items (length items) (length items - 1) last refl (omega (arith, some)) c.index-items-left.is in
    let are : items ≡ front ++ last ∷ [] = front_and_last items some (length items - 1) last (omega (arith, some)) ∙ ap (λ y. front ++ y ∷ []) (get_or_from_slice_get items (length items - 1) last last at) in
    let one : length (drop (length items - 1) items) ≡ 1 = omega (arith, length-drop (length items - 1) items, some) in
    let back = front_of_single_rest c.settle.new.items (drop (length items - 1) items) one in
    subst (λ (xs : List (Item Timed)). IsTopHeap event_before xs c.args.slots c.args.slots) (sym back)
    (left_heap items front last are c.args.slots c.args.slot c.requires.heap c.requires.least left c.settle.new.items c.settle.ensures.moved c.settle.ensures.ordered)

pub returns-clause-taken : goal.returns-clause-taken
returns-clause-taken g c =
    let items = c.args.items.now in
    let front = all_but_last items in
    let last = c.index-items-left.result in
    let some = some_items event_before event_laws c.args.slots items c.requires.heap.apart c.requires.heap.ordered c.args.slot c.requires.least in
    let many : length front + 1 ≡ length items = length-front items some in
    let left : 0 < length front = omega (arith, many, c.if-left-eq0.false) in
    let at : slice_get items (length items - 1) ≡ Some last = slice_get_read items (length items) (length items - 1) last refl (omega (arith, some)) c.index-items-left.is in
    let are : items ≡ front ++ last ∷ [] = front_and_last items some (length items - 1) last (omega (arith, some)) ∙ ap (λ y. front ++ y ∷ []) (get_or_from_slice_get items (length items - 1) last last at) in
    let one : length (drop (length items - 1) items) ≡ 1 = omega (arith, length-drop (length items - 1) items, some) in
    let back = front_of_single_rest c.settle.new.items (drop (length items - 1) items) one in
    ap (placed c.args.slots) back ∙ left_placed items front last are c.args.slots c.args.slot c.requires.heap c.requires.least left c.settle.new.items c.settle.ensures.moved

pub returns-clause-counted : goal.returns-clause-counted
returns-clause-counted g c =
    let items = c.args.items.now in
    let some = some_items event_before event_laws c.args.slots items c.requires.heap.apart c.requires.heap.ordered c.args.slot c.requires.least in
    let last = c.index-items-left.result in
    λ k few.
    let counted = c.settle.ensures.counted k (omega (arith, few, length-set (all_but_last items) 0 last, length-front items some)) in
    omega (arith, counted)
