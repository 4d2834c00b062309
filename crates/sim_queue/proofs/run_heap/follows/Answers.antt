use Rattle.std.proofs.Common.{◌≡◌, ◌-◌, length, slice_index_or, refl, sym, ap, ◌∙◌, arith}
use Rattle.std.proofs.lemmas.Option.{slice_get_read}
use Rattle.sim_order.specs.Events.{event_before}
use Rattle.sim_order.specs.EventLaws.{event_laws}
use Rattle.sim_queue.proofs.Runs.{behind_if_not_before_last, not_true_is_false}
use Rattle.sim_queue.proofs.run_heap.follows.Goals as goal

pub returns-in-Some-clause-behind : goal.returns-in-Some-clause-behind
returns-in-Some-clause-behind g c =
    let run = c.args.run.now in
    let last = c.in-Some.last.now in
    let some = c.in-Some.ensures.item.3.0 in
    let there : last ≡ slice_index_or run.items (length run.items - 1) last = c.in-Some.ensures.lookup ∙ ap (λ n. slice_index_or run.items (n - 1) last) run.ok.0 in
    let stands = slice_get_read run.items (length run.items) (length run.items - 1) last refl (omega (arith, some)) there in
    λ e. behind_if_not_before_last event_before event_laws run.items c.requires.in_order last c.args.item.now stands (sym c.before-in-Some.ensures.tells ∙ not_true_is_false c.before-in-Some.result e)
