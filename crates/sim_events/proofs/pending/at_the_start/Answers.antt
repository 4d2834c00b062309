use Rattle.std.proofs.Common.{◌*◌, ◌+◌, List, arith, ap, subst, sym}
use Rattle.goal_graph.specs.declared.action.Timed.{Timed}
use Rattle.sim_events.specs.Queue.{IsOfSchedule}
use Rattle.sim_events.specs.Changes.{HaveChanged}
use Rattle.sim_events.proofs.Changes.{changed_at_same_places}
use Rattle.sim_events.proofs.Costs.{spent_none, spent_by_all_slots, waiting_costs_at_most_spent}
use Rattle.sim_events.proofs.pending.at_the_start.Goals as goal

pub fill-requires-clause-of_it : goal.fill-requires-clause-of_it
fill-requires-clause-of_it g c =
    let state = c.args.state.now in
    let model = g.C.Costs.model in
    let queue = c.in_ok-queue.queue in
    subst (λ (h : List Timed). IsOfSchedule state.plans (model state.costs) h queue) (sym c.requires.empty) (c.in_ok-queue.ensures.of_it (model state.costs))

pub returns-clause-pending : goal.returns-clause-pending
returns-clause-pending g c =
    let state = c.args.state.now in
    let queue = c.in_ok-queue.queue in
    let changed = c.in_ok-queue.ensures.changed in
    let at_history = subst (λ (h : List Timed). HaveChanged state.plans h queue changed.0) (sym c.requires.empty) changed.1 in
    (c.fill.ensures.queue, (changed.0, changed_at_same_places _ _ queue c.fill.new.queue changed.0 at_history c.fill.ensures.placed))

pub returns-clause-counted : goal.returns-clause-counted
returns-clause-counted g c =
    λ k few.
    let first = c.in_ok-queue.queue in
    let each = c.in_ok-queue.ensures.of_it (g.C.Costs.model c.args.state.now.costs) in
    let filled = c.fill.ensures.counted k (omega (arith, few, each.each)) in
    let most = spent_by_all_slots k c.fill.new.queue in
    omega (arith, filled, most, waiting_costs_at_most_spent k first c.known.ensures, spent_none k first c.in_ok-queue.ensures.empty, ap (λ n. n * (10 * k + 16)) c.fill.ensures.queue.of_it.each)
