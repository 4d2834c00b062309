use Rattle.std.proofs.Common.{◌≡◌, ◌<◌, ◌∙◌, List, All, Some, length, slice_get, ap, subst, arith}
use Rattle.std.proofs.lemmas.Option.{slice_get_within}
use Rattle.goal_graph.specs.declared.plan.Need.{Need}
use Rattle.goal_graph.specs.Schedule.{Plan, operations, needed}
use Rattle.goal_graph.specs.Concerned.{waiting_on}
use Rattle.goal_graph.specs.Fault.{IsOp}
use Rattle.sim_resources.specs.Numbering.{AreStationed}
use Rattle.sim_events.specs.Comparisons.{count_of, last_look}
use Rattle.sim_events.proofs.Costs.{spent_same}
use Rattle.sim_events.proofs.Settled.{spent_settled}
use Rattle.sim_events.proofs.Changes.{changed_at_same_places}
use Rattle.sim_events.proofs.Steps.{next_is_of_an_op, plans_kept_by_action, op_exists_after_action, concerned_are_due_after_action, held_resources_later_after_action, changes_of_run_after_action, looks_after_action}
use Rattle.sim_events.proofs.pending.step.Goals as goal

pub returns-in_err-slot-clause-counted : goal.returns-in_err-slot-clause-counted
returns-in_err-slot-clause-counted g c =
    λ k few.
    let next = c.next.ensures.counted k (omega (arith, few, c.requires.pending.0.of_it.each)) in
    omega (arith, next, spent_same k c.args.queue.now c.next.new.queue c.next.ensures.keys, ap last_look c.from_residual.ensures, ap count_of c.from_residual.ensures)

pub waiting_after-waiting-requires : goal.waiting_after-waiting-requires
waiting_after-waiting-requires g c =
    (next_is_of_an_op g.C.Costs.model c.args.state.now c.in_ok-slot.action c.in_ok-slot.ensures.next)

pub settle-requires-clause-stationed : goal.settle-requires-clause-stationed
settle-requires-clause-stationed g c =
    subst (λ (ps : List Plan). AreStationed ps c.next.new.queue.stations c.next.new.queue.pairs) (plans_kept_by_action g.C.Costs.model c.args.state.now c.perform.new.self c.in_ok-slot.action c.perform.ensures.performed) c.in_ok-slot.ensures.queue.of_it.stationed

pub settle-requires-clause-slot : goal.settle-requires-clause-slot
settle-requires-clause-slot g c =
    subst (λ (ps : List Plan). slice_get (operations ps) c.in_ok-slot.slot ≡ Some c.in_ok-slot.action.op) (plans_kept_by_action g.C.Costs.model c.args.state.now c.perform.new.self c.in_ok-slot.action c.perform.ensures.performed) c.in_ok-slot.ensures.slot

pub settle-requires-clause-later : goal.settle-requires-clause-later
settle-requires-clause-later g c =
    λ waits. held_resources_later_after_action g.C.Costs.model c.args.state.now c.perform.new.self c.in_ok-slot.action c.next.new.queue c.in_ok-slot.slot c.perform.ensures.performed c.in_ok-slot.ensures.next c.in_ok-slot.ensures.queue c.in_ok-slot.ensures.slot

pub follow-requires-clause-exists : goal.follow-requires-clause-exists
follow-requires-clause-exists g c =
    op_exists_after_action g.C.Costs.model c.args.state.now c.perform.new.self c.in_ok-slot.action c.perform.ensures.performed c.in_ok-slot.ensures.next

pub follow-requires-clause-whom : goal.follow-requires-clause-whom
follow-requires-clause-whom g c =
    let same = plans_kept_by_action g.C.Costs.model c.args.state.now c.perform.new.self c.in_ok-slot.action c.perform.ensures.performed in
    λ other. c.waiting_after-waiting.ensures.whom other ∙ ap (λ (ps : List Plan). waiting_on ps c.in_ok-slot.action.op) same

pub follow-requires-clause-exist : goal.follow-requires-clause-exist
follow-requires-clause-exist g c =
    let same = plans_kept_by_action g.C.Costs.model c.args.state.now c.perform.new.self c.in_ok-slot.action c.perform.ensures.performed in
    λ other. subst (λ (ps : List Plan). All (λ (need : Need). IsOp ps (needed c.in_ok-slot.action.op need)) c.waiting_after-waiting.result.now) same (c.waiting_after-waiting.ensures.exist other)

pub follow-requires-clause-rest : goal.follow-requires-clause-rest
follow-requires-clause-rest g c =
    concerned_are_due_after_action g.C.Costs.model c.args.state.now c.perform.new.self c.in_ok-slot.action c.next.new.queue c.settle.new.queue c.in_ok-slot.slot c.perform.ensures.performed c.known.ensures.run c.in_ok-slot.ensures.next c.in_ok-slot.ensures.queue c.in_ok-slot.ensures.slot c.settle.ensures.settled

pub returns-clause-counted : goal.returns-clause-counted
returns-clause-counted g c =
    λ k few.
    let each = c.requires.pending.0.of_it.each in
    let found = c.in_ok-slot.ensures.queue.of_it.each in
    let within : c.in_ok-slot.slot < length c.next.new.queue.keys = omega (arith, found, slice_get_within (operations c.args.state.now.plans) c.in_ok-slot.slot c.in_ok-slot.action.op c.in_ok-slot.ensures.slot) in
    let settled = c.settle.ensures.settled in
    let next = c.next.ensures.counted k (omega (arith, few, each)) in
    let settle = c.settle.ensures.counted k (omega (arith, few, found)) in
    let follow = c.follow.ensures.counted k (omega (arith, few, found, settled.each)) in
    let gone = spent_settled k _ _ c.in_ok-slot.slot c.in_ok-slot.action c.next.new.queue c.settle.new.queue settled c.in_ok-slot.ensures.key within in
    omega (arith, next, settle, follow, gone, spent_same k c.args.queue.now c.next.new.queue c.next.ensures.keys)

pub returns-clause-pending : goal.returns-clause-pending
returns-clause-pending g c =
    let first = c.requires.pending.1 in
    let found = c.next.ensures.moved first.0 first.1 in
    let settled = changes_of_run_after_action g.C.Costs.model c.args.state.now c.perform.new.self c.in_ok-slot.action c.next.new.queue c.settle.new.queue c.in_ok-slot.slot c.perform.ensures.performed c.in_ok-slot.ensures.queue c.in_ok-slot.ensures.slot c.settle.ensures.settled found.now found.changed in
    (c.follow.ensures.queue, (found.now, changed_at_same_places _ _ _ c.follow.new.queue found.now settled c.follow.ensures.placed))

pub returns-clause-moved : goal.returns-clause-moved
returns-clause-moved g c =
    λ all changed.
    let found = c.next.ensures.moved all changed in
    let settled = changes_of_run_after_action g.C.Costs.model c.args.state.now c.perform.new.self c.in_ok-slot.action c.next.new.queue c.settle.new.queue c.in_ok-slot.slot c.perform.ensures.performed c.in_ok-slot.ensures.queue c.in_ok-slot.ensures.slot c.settle.ensures.settled found.now found.changed in
    record { now = found.now; changed = changed_at_same_places _ _ _ c.follow.new.queue found.now settled c.follow.ensures.placed; counted = found.counted }

pub returns-in_err-slot-clause-pending : goal.returns-in_err-slot-clause-pending
returns-in_err-slot-clause-pending g c =
    let first = c.requires.pending.1 in
    let found = c.next.ensures.moved first.0 first.1 in
    (c.next.ensures.queue, (found.now, found.changed))

pub returns-clause-needed : goal.returns-clause-needed
returns-clause-needed g c =
    omega (arith, c.perform.ensures.given, looks_after_action g.C.Costs.model c.args.state.now c.perform.new.self c.in_ok-slot.action c.perform.ensures.performed)
