use Rattle.std.proofs.Common.{◌<◌, List, length, ap, ◌∙◌, sym, subst, arith}
use Rattle.std.proofs.lemmas.List.{length-set}
use Rattle.goal_graph.specs.Schedule.{Plan, operations}
use Rattle.goal_graph.specs.Fault.{IsOp}
use Rattle.sim_events.proofs.Held.{borrowed_times_are_known}
use Rattle.sim_events.proofs.Queue.{key_kept, idle_kept, put_enabled}
use Rattle.sim_events.proofs.Costs.{spent_put}
use Rattle.sim_state.proofs.ForCallers.{possible_exists, is_some_false_means_none}
use Rattle.sim_state.specs.Enabled.{IsEnabledActionOf}
use Rattle.sim_events.proofs.follow.refresh.Goals as goal

pub compact-requires : goal.compact-requires
compact-requires g c =
    let enabled = subst (IsEnabledActionOf c.args.state.now.plans _ c.args.state.now.history c.args.id) c.in-Some.is c.choice.ensures in
    subst (λ (ps : List Plan). IsOp ps c.in-Some.action.op) (sym c.sched-in-Some.ensures) (possible_exists _ _ _ c.in-Some.action enabled.1)

pub has-requires : goal.has-requires
has-requires g c =
    omega (arith, c.index-slot.ensures.below, c.requires.possible.of_it.each, ap (λ (ps : List Plan). length (operations ps)) c.sched.ensures)

pub put-requires : goal.put-requires
put-requires g c = record {
  times = borrowed_times_are_known _ _ _ c.args.queue.now c.requires.possible.of_it _ (c.free_times.ensures c.args.queue.now.stations c.args.queue.now.pairs c.requires.possible.of_it.stationed) c.index-slot.result (omega (arith, c.index-slot.ensures.below, c.requires.possible.of_it.each, ap (λ (ps : List Plan). length (operations ps)) c.sched.ensures));
  slot_in = omega (arith, c.index-slot.ensures.below, c.requires.possible.of_it.each, ap (λ (ps : List Plan). length (operations ps)) c.sched.ensures);
  free = is_some_false_means_none _ (sym c.has.ensures ∙ c.if-has.false);
}

-- it has a key already
pub returns-then-has-clause-queue : goal.returns-then-has-clause-queue
returns-then-has-clause-queue g c =
    key_kept _ _ _ c.args.id _ c.index-slot.result c.args.queue.now c.requires.possible c.sched.ensures c.index-slot.ensures.index (sym c.has.ensures ∙ c.if-has.true)

pub returns-in-Some-clause-queue : goal.returns-in-Some-clause-queue
returns-in-Some-clause-queue g c =
    put_enabled _ _ _ c.args.id _ c.index-slot.result _ c.in-Some.action _ c.args.queue.now _ c.requires.possible c.sched.ensures c.index-slot.ensures.index c.choice.ensures c.in-Some.is c.compact.ensures c.put.ensures.put c.put.ensures.stations c.put.ensures.pairs c.put.ensures.turned c.put.ensures.free

pub returns-in_default-clause-queue : goal.returns-in_default-clause-queue
returns-in_default-clause-queue g c =
    idle_kept _ _ _ c.args.id _ c.index-slot.result _ c.args.queue.now c.sched.ensures c.index-slot.ensures.index c.choice.ensures c.in_default.is (sym c.has.ensures ∙ c.if-has.false)

pub returns-in-Some-clause-counted : goal.returns-in-Some-clause-counted
returns-in-Some-clause-counted g c =
    λ k few.
    let within : c.index-slot.result < length c.args.queue.now.keys = omega (arith, c.index-slot.ensures.below, c.requires.possible.of_it.each, ap (λ (ps : List Plan). length (operations ps)) c.sched.ensures) in
    let each = ap length c.put.ensures.put ∙ length-set c.args.queue.now.keys c.index-slot.result _ in
    let free = is_some_false_means_none _ (sym c.has.ensures ∙ c.if-has.false) in
    let more = spent_put k c.args.queue.now c.put.new.self c.index-slot.result each within _ c.put.ensures.put free in
    omega (arith, c.put.ensures.counted k few, more)
