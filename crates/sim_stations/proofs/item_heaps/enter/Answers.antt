use Rattle.std.proofs.lemmas.List.{length-set}
use Rattle.std.proofs.Common.{◌≡◌, ◌-◌, ◌++◌, ◌∷◌, [], List, length, set, sym, ap, subst, arith}
use Rattle.goal_graph.specs.declared.action.Timed.{Timed}
use Rattle.sim_order.specs.Events.{event_before}
use Rattle.sim_queue.specs.Item.{Item}
use Rattle.sim_queue.specs.Places.{AreOrdered, AreOrderedBut}
use Rattle.sim_queue.specs.Sift.{AreMoved}
use Rattle.sim_queue.specs.TopHeap.{key_there, AreApart}
use Rattle.sim_queue.proofs.ForCallers.{items_fit}
use Rattle.sim_stations.specs.Parts.{all_but_last}
use Rattle.sim_stations.proofs.ItemParts.{apart_with_new, length-front, set_last, entered_ordered, entered_heap, entered_placed}
use Rattle.sim_stations.proofs.item_heaps.enter.Goals as goal

pub rise-requires-clause-but : goal.rise-requires-clause-but
rise-requires-clause-but g c =
    let items = c.args.items.now in
    let x = c.args.item in
    let are : set items (length items - 1) x ≡ all_but_last items ++ x ∷ [] = set_last items c.requires.some (length items - 1) x (omega (arith, c.requires.some)) in
    subst (λ (xs : List (Item Timed)). AreOrderedBut event_before (key_there xs) (length xs) (length items - 1)) (sym are)
    (entered_ordered (all_but_last items) x c.args.slots c.requires.heap c.requires.slot_in c.requires.free (length items - 1) (omega (arith, length-front items c.requires.some)))

pub returns-clause-heap : goal.returns-clause-heap
returns-clause-heap g c =
    let items = c.args.items.now in
    let x = c.args.item in
    let are : set items (length items - 1) x ≡ all_but_last items ++ x ∷ [] = set_last items c.requires.some (length items - 1) x (omega (arith, c.requires.some)) in
    let moved = subst (λ (xs : List (Item Timed)). AreMoved xs c.rise.new.items) are c.rise.ensures.moved in
    entered_heap (all_but_last items) x c.args.slots c.requires.heap c.requires.slot_in c.requires.free c.rise.new.items moved (subst (λ (xs : List (Item Timed)). AreOrdered event_before (key_there c.rise.new.items) (length xs)) are c.rise.ensures.ordered)

pub returns-clause-put : goal.returns-clause-put
returns-clause-put g c =
    let items = c.args.items.now in
    let x = c.args.item in
    let are : set items (length items - 1) x ≡ all_but_last items ++ x ∷ [] = set_last items c.requires.some (length items - 1) x (omega (arith, c.requires.some)) in
    let moved = subst (λ (xs : List (Item Timed)). AreMoved xs c.rise.new.items) are c.rise.ensures.moved in
    entered_placed (all_but_last items) x c.args.slots c.requires.heap c.requires.slot_in c.requires.free c.rise.new.items moved

pub returns-clause-counted : goal.returns-clause-counted
returns-clause-counted g c = λ k few.
    let counted = c.rise.ensures.counted k (omega (arith, few, length-set c.args.items.now (length c.args.items.now - 1) c.args.item)) in
    omega (arith, counted)

pub rise-requires-clause-noted : goal.rise-requires-clause-noted
rise-requires-clause-noted g c =
    let items = c.args.items.now in
    let x = c.args.item in
    let are : set items (length items - 1) x ≡ all_but_last items ++ x ∷ [] = set_last items c.requires.some (length items - 1) x (omega (arith, c.requires.some)) in
    let each = subst (AreApart c.args.slots) (sym are) (apart_with_new (all_but_last items) x c.args.slots c.requires.heap c.requires.slot_in c.requires.free) in
    record { within = λ place y e. tt; apart = each.apart; noted = λ place y e n. tt }

pub rise-requires-clause-few : goal.rise-requires-clause-few
rise-requires-clause-few g c =
    let items = c.args.items.now in
    let x = c.args.item in
    let are : set items (length items - 1) x ≡ all_but_last items ++ x ∷ [] = set_last items c.requires.some (length items - 1) x (omega (arith, c.requires.some)) in
    let fit = items_fit c.args.slots (all_but_last items ++ x ∷ []) (apart_with_new (all_but_last items) x c.args.slots c.requires.heap c.requires.slot_in c.requires.free) in
    omega (arith, fit, ap length are, c.requires.heap.few)
