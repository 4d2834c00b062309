use Rattle.std.proofs.Common.{◌<◌, List, Contains, length, get_or, ap, sym, ◌∙◌, subst, arith}
use Rattle.goal_graph.specs.declared.action.OpId.{OpId}
use Rattle.goal_graph.specs.Schedule.{Plan, operations}
use Rattle.goal_graph.specs.Fault.{IsOp}
use Rattle.goal_graph.proofs.ForCallers.{listed_places, unread_after_next, nothing_after_end}
use Rattle.sim_events.proofs.Changes.{same_places_reflexive, same_places_transitive}
use Rattle.sim_events.proofs.Queue.{empty_queue_with_all_due, possible_keys, fewer_due, refreshed_is_no_longer_due}
use Rattle.sim_events.proofs.follow.fill.Goals as goal

abbrev default_op : OpId
default_op = record { rank = 0; op = 0 }

pub loop-id-init : goal.loop-id-init
loop-id-init g c =
    let plans = c.args.state.now.plans in
    (empty_queue_with_all_due plans _ _ (Contains (operations plans)) _ c.requires.of_it c.requires.empty (λ y is. (listed_places plans y).1 is), λ k few. omega arith, same_places_reflexive c.args.queue.now)

pub refresh-requires : goal.refresh-requires
refresh-requires g c =
    let x = get_or c.operations-id-items.result.now c.loop-id.id-index default_op in
    record {
      exists = subst (λ (ps : List Plan). IsOp ps x) c.sched.ensures (c.operations-id-items.ensures.exist c.loop-id.id-index default_op c.loop-id-test.true);
      possible = possible_keys _ _ _ _ _ c.loop-id.invariant.0;
    }

pub loop-id-preserved : goal.loop-id-preserved
loop-id-preserved g c =
    let plans = c.args.state.now.plans in
    let items = c.operations-id-items.ensures.all ∙ ap operations c.sched.ensures in
    let k = c.loop-id.id-index in
    let within = subst (λ (xs : List OpId). k < length xs) items c.loop-id-test.true in
    (refreshed_is_no_longer_due plans _ _ _ _ _ _ _ c.loop-id.invariant.0 c.refresh.ensures.queue (λ y is left differ. unread_after_next (operations plans) k default_op y within left (λ e. differ (e ∙ ap (λ (xs : List OpId). get_or xs k default_op) (sym items)))), λ k few. omega (arith, c.loop-id.invariant.1 k few, c.refresh.ensures.counted k (omega (arith, few, c.loop-id.invariant.0.of_it.each, c.requires.of_it.each))), same_places_transitive c.args.queue.now _ _ c.loop-id.invariant.2 c.refresh.ensures.placed)

pub returns-clause-queue : goal.returns-clause-queue
returns-clause-queue g c =
    let plans = c.args.state.now.plans in
    let items = c.operations-id-items.ensures.all ∙ ap operations c.sched.ensures in
    fewer_due plans _ _ _ _ _ c.loop-id.invariant.0 (λ y is left. nothing_after_end (operations plans) c.loop-id.id-index y (omega (arith, ap length items, c.loop-id-test.false)) left)

pub returns-clause-counted : goal.returns-clause-counted
returns-clause-counted g c = λ k few. omega (arith, c.loop-id.invariant.1 k few)
