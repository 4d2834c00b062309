use Rattle.std.proofs.Common.{◌<◌, ◌^◌, List, Some, length, get_or, arith, ap, ◌∙◌, subst}
use Rattle.std.proofs.lemmas.List.{take_all}
use Rattle.goal_graph.specs.declared.action.OpId.{OpId}
use Rattle.goal_graph.specs.declared.plan.Kind.{Kind}
use Rattle.goal_graph.specs.Schedule.{IsSend}
use Rattle.sim_match.specs.Capacities.{AreCapacities}
use Rattle.sim_match.proofs.PatternLemmas.{lists_once, lists_within}
use Rattle.sim_match.proofs.CapacityLemmas.{receives_fit, capacities_after_receive, its_lists, sends_fit, capacities_after_send, capacities_after_calc}
use Rattle.sim_match.proofs.capacities.capacities.Goals as goal
use Rattle.sim_match.proofs.capacities.capacities.Goals.{in-Recv, in-Send, in-Calc}
use Rattle.goal_graph.proofs.ForCallers.{borrowed_whole_restored, kind_of_found_op}

pub list_of_receive-list-requires-clause-receive :
    goal.list_of_receive-list-requires-clause-receive
list_of_receive-list-requires-clause-receive c = record {
  room = c.in-Recv.bytes;
  from = c.in-Recv.from;
  tag = c.in-Recv.tag;
  kind = kind_of_found_op _ _ _ c.op.ensures.op ∙ ap (λ (k : Kind). Some k) c.in-Recv.is;
}

pub overflow_add-capacity : goal.overflow_add-capacity
overflow_add-capacity c =
    let short : length c.operations-id-items.result.now < 2 ^ 32 = rw c.operations-id-items.ensures.all c.requires.few in
    let fits = receives_fit _ _ c.operations-id-items.result.now c.loop-id.id-index (record { rank = 0; op = 0 }) (omega arith) _ (c.loop-id.invariant c.requires.numbered) _ c.op.ensures.op _ _ _ c.in-Recv.is _ (c.list_of_receive-list.ensures.list c.requires.numbered) (omega (arith, c.list_of_receive-list.ensures.within, c.requires.numbered.count)) _ c.index_mut-capacity.ensures.value short in
    omega (arith, fits)

-- the send of this turn
this_send : (c : goal.After-lists_of_send) → IsSend c.args.sched.now (get_or c.operations-id-items.result.now c.loop-id.id-index (record { rank = 0; op = 0 }))
this_send c = record {
  bytes = c.in-Send.bytes;
  to = c.in-Send.to;
  tag = c.in-Send.tag;
  kind = kind_of_found_op _ _ _ c.op.ensures.op ∙ ap (λ (k : Kind). Some k) c.in-Send.is;
}

pub lists_of_send-requires-clause-send : goal.lists_of_send-requires-clause-send
lists_of_send-requires-clause-send c = record {
  bytes = c.in-Send.bytes;
  to = c.in-Send.to;
  tag = c.in-Send.tag;
  kind = kind_of_found_op _ _ _ c.op.ensures.op ∙ ap (λ (k : Kind). Some k) c.in-Send.is;
}

pub count_send-requires-clause-once : goal.count_send-requires-clause-once
count_send-requires-clause-once c = rw (c.lists_of_send.ensures c.requires.numbered) (lists_once _ _ _ (this_send c))

pub count_send-requires-clause-within : goal.count_send-requires-clause-within
count_send-requires-clause-within c = λ k i e.
    let low = lists_within _ _ _ (this_send c) k i (rw (c.lists_of_send.ensures c.requires.numbered) at e) in
    omega (arith, low, c.deref_mut.ensures.len, (c.loop-id.invariant c.requires.numbered).one_each, c.loop-id.capacities.ok.0)

pub count_send-requires-clause-small : goal.count_send-requires-clause-small
count_send-requires-clause-small c = λ l r e.
    let short : length c.operations-id-items.result.now < 2 ^ 32 = rw c.operations-id-items.ensures.all c.requires.few in
    sends_fit _ _ c.operations-id-items.result.now c.loop-id.id-index (record { rank = 0; op = 0 }) (omega arith) _ (c.loop-id.invariant c.requires.numbered) _ c.op.ensures.op _ _ _ c.in-Send.is short l r (rw c.deref_mut.ensures.value at e)

pub loop-id-preserved : goal.loop-id-preserved
loop-id-preserved c = λ n. elim c.match-op.branch [
  | in-Recv w ↦ rw w.capacities-is (capacities_after_receive _ _ c.operations-id-items.result.now c.loop-id.id-index (record { rank = 0; op = 0 }) (omega arith) _ (c.loop-id.invariant n) _ c.op.ensures.op _ _ _ w.in-Recv.is _ (w.list_of_receive-list.ensures.list n) (omega (arith, w.list_of_receive-list.ensures.within, n.count)) _ w.index_mut-capacity.ensures.value)
  | in-Send w ↦
      let its = w.lists_of_send.ensures n ∙ its_lists _ _ c.operations-id-items.result.now c.loop-id.id-index (record { rank = 0; op = 0 }) (omega arith) _ (c.loop-id.invariant n) _ c.op.ensures.op _ _ _ w.in-Send.is in
      let counted = rw (its, w.deref_mut.ensures.value) at w.count_send.ensures in
      let back = borrowed_whole_restored c.loop-id.capacities.len w.count_send.new.capacities c.loop-id.capacities.items counted.one_each (omega (arith, c.loop-id.capacities.ok.0)) in
      rw (w.capacities-is, back) (capacities_after_send _ _ c.operations-id-items.result.now c.loop-id.id-index (record { rank = 0; op = 0 }) (omega arith) _ (c.loop-id.invariant n) _ c.op.ensures.op _ _ _ w.in-Send.is w.count_send.new.capacities counted)
  | in-Calc w ↦ rw w.capacities-is (capacities_after_calc _ _ c.operations-id-items.result.now c.loop-id.id-index (record { rank = 0; op = 0 }) (omega arith) _ (c.loop-id.invariant n) _ c.op.ensures.op _ w.in-Calc.is)
]

pub op-requires : goal.op-requires
op-requires c = c.operations-id-items.ensures.exist c.loop-id.id-index (record { rank = 0; op = 0 }) (omega arith)

pub returns : goal.returns
returns c = λ n.
    let all = take_all c.loop-id.id-index c.operations-id-items.result.now c.loop-id-test.false ∙ c.operations-id-items.ensures.all in
    subst (λ (xs : List OpId). AreCapacities c.args.sched.now n.keys xs c.loop-id.capacities.items) all (c.loop-id.invariant n)
