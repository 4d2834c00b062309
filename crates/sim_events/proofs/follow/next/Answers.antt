use Rattle.std.proofs.Common.{Some, is_some, sym, ap, ◌∙◌, subst}
use Rattle.goal_graph.specs.declared.action.Timed.{Timed}
use Rattle.sim_queue.specs.Map.{key_at, IsLeast}
use Rattle.sim_order.specs.Events.{event_before}
use Rattle.sim_events.proofs.Changes.{changed_as_least_is_found}
use Rattle.sim_events.proofs.Held.{borrowed_times_are_known}
use Rattle.sim_events.proofs.Queue.{keys_are_of_their_slots, same_queue, empty_queue_is_finished, least_key_is_next, key_found}
use Rattle.sim_events.proofs.follow.next.Goals as goal

pub least-requires : goal.least-requires
least-requires g c = record {
  times = borrowed_times_are_known _ _ _ c.args.queue.now c.requires.queue.of_it _ (c.free_times.ensures c.args.queue.now.stations c.args.queue.now.pairs c.requires.queue.of_it.stationed);
  of_slots = keys_are_of_their_slots _ _ _ _ c.args.queue.now _ c.requires.queue c.sched.ensures;
}

pub returns-in_err-slot-clause-queue : goal.returns-in_err-slot-clause-queue
returns-in_err-slot-clause-queue g c =
    same_queue _ _ _ _ c.args.queue.now _ c.requires.queue c.least.ensures.keys c.least.ensures.stations c.least.ensures.pairs c.least.ensures.free

pub returns-clause-queue : goal.returns-clause-queue
returns-clause-queue g c =
    same_queue _ _ _ _ c.args.queue.now _ c.requires.queue c.least.ensures.keys c.least.ensures.stations c.least.ensures.pairs c.least.ensures.free

pub returns-in_err-slot-clause-none : goal.returns-in_err-slot-clause-none
returns-in_err-slot-clause-none g c =
    λ none. empty_queue_is_finished _ _ _ c.known.ensures.run c.args.queue.now c.requires.queue (c.least.ensures.none.0 (ap is_some c.in_err-slot.was))

pub returns-clause-next : goal.returns-clause-next
returns-clause-next g c =
    least_key_is_next _ _ _ c.known.ensures.run c.args.queue.now c.requires.queue c.in_ok-slot.slot _ (subst (λ (e : Timed). IsLeast event_before c.args.queue.now.keys c.in_ok-slot.slot e) (λ i. record { time = sym c.time.ensures i; class = sym c.class.ensures i; op = sym c.id.ensures i }) c.in_ok-slot.ensures.least)

pub returns-clause-slot : goal.returns-clause-slot
returns-clause-slot g c =
    (key_found _ _ _ _ c.args.queue.now c.in_ok-slot.slot c.in_ok-slot.key c.requires.queue c.in_ok-slot.ensures.least.has).is_slot ∙ ap Some (sym c.id.ensures)

pub returns-clause-key : goal.returns-clause-key
returns-clause-key g c =
    ap (λ ks. key_at ks c.in_ok-slot.slot) c.least.ensures.keys ∙ c.in_ok-slot.ensures.least.has ∙ ap Some (λ i. record { time = sym c.time.ensures i; class = sym c.class.ensures i; op = sym c.id.ensures i })

pub returns-in_err-slot-clause-moved : goal.returns-in_err-slot-clause-moved
returns-in_err-slot-clause-moved g c =
    λ all changed. changed_as_least_is_found _ _ c.args.queue.now c.least.new.self all changed _ _ c.least.ensures.stations c.least.ensures.pairs c.least.ensures.free c.least.ensures.moved

pub returns-clause-moved : goal.returns-clause-moved
returns-clause-moved g c =
    λ all changed. changed_as_least_is_found _ _ c.args.queue.now c.least.new.self all changed _ _ c.least.ensures.stations c.least.ensures.pairs c.least.ensures.free c.least.ensures.moved
