use Rattle.std.proofs.Common.{length, refl, sym, ◌∙◌}
use Rattle.std.proofs.lemmas.Option.{slice_get_read}
use Rattle.sim_order.specs.Events.{event_before}
use Rattle.sim_order.specs.EventLaws.{event_laws}
use Rattle.sim_queue.proofs.Runs.{ahead_if_before_first, not_ahead_if_not_before_first}
use Rattle.sim_queue.proofs.run_heap.leads.Goals as goal

pub returns-in-Some-clause-ahead : goal.returns-in-Some-clause-ahead
returns-in-Some-clause-ahead g c =
    let run = c.args.run.now.items in
    let first = c.in-Some.first.now in
    let stands = slice_get_read run (length run) 0 first refl c.in-Some.ensures.item.3.0 c.in-Some.ensures.lookup in
    λ e. ahead_if_before_first event_before event_laws run c.requires.in_order first c.args.item.now stands (sym c.before-in-Some.ensures.tells ∙ e)

pub returns-in-Some-clause-not_ahead : goal.returns-in-Some-clause-not_ahead
returns-in-Some-clause-not_ahead g c =
    let run = c.args.run.now.items in
    let first = c.in-Some.first.now in
    let stands = slice_get_read run (length run) 0 first refl c.in-Some.ensures.item.3.0 c.in-Some.ensures.lookup in
    λ e. not_ahead_if_not_before_first event_before event_laws run first c.args.item.now stands (sym c.before-in-Some.ensures.tells ∙ e)
