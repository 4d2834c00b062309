use Rattle.std.proofs.Common.{◌≡◌, false, true, length, refl, sym, ap, ◌∙◌}
use Rattle.std.proofs.lemmas.Option.{slice_get_read}
use Rattle.sim_order.specs.Events.{event_before}
use Rattle.sim_order.specs.EventLaws.{event_laws}
use Rattle.sim_queue.proofs.Runs.{run_is_first, heap_is_first, not_true_is_false, not_false_is_true}
use Rattle.sim_queue.proofs.run_heap.is_first.Goals as goal

pub returns-clause-run_first : goal.returns-clause-run_first
returns-clause-run_first g c =
    let run = c.args.run.now.items in
    let first = c.in-Some.first.now in
    let stands = slice_get_read run (length run) 0 first refl c.in-Some.ensures.item.3.0 c.in-Some.ensures.lookup in
    let top = c.in-Some-least.top.1 in
    λ e.
    let late : event_before top first.key ≡ false = ap (event_before top) (sym c.key.ensures) ∙ sym c.before-2.ensures.tells ∙ not_true_is_false c.before-2.result e in
    run_is_first event_before event_laws run c.args.heap.now first stands c.in-Some-least.top.0 top c.in-Some-least.ensures.least late

pub returns-clause-heap_first : goal.returns-clause-heap_first
returns-clause-heap_first g c =
    let run = c.args.run.now.items in
    let first = c.in-Some.first.now in
    let stands = slice_get_read run (length run) 0 first refl c.in-Some.ensures.item.3.0 c.in-Some.ensures.lookup in
    let top = c.in-Some-least.top.1 in
    λ e.
    let early : event_before top first.key ≡ true = ap (event_before top) (sym c.key.ensures) ∙ sym c.before-2.ensures.tells ∙ not_false_is_true c.before-2.result e in
    heap_is_first event_before event_laws run c.args.heap.now c.requires.in_order first stands c.in-Some-least.top.0 top c.in-Some-least.ensures.least early
