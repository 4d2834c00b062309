use Rattle.std.proofs.Common.{length, add-one, sym, ap, ◌∙◌, arith}
use Rattle.goal_collectives.specs.Probe.{probed, next_state, round_from, state_before}
use Rattle.goal_collectives.proofs.ProbePlans.{round_is_small, probed_ops_fit_in, probed_ranks, idle_ranks_are_probed, state_before_first, probed_with_another_round, state_after_round, round_ranks}
use Rattle.goal_collectives.proofs.probe.probe_plans.Goals as goal
use Rattle.goal_graph.proofs.ForCallers.{borrowed_whole_restored}

pub loop-number-init : goal.loop-number-init
loop-number-init c = record {
  plans = c.in_ok-plans.ensures ∙ idle_ranks_are_probed c.args.seed;
  state = c.new-draws.ensures ∙ state_before_first c.args.seed;
}

pub add_round-requires-clause-ranks : goal.add_round-requires-clause-ranks
add_round-requires-clause-ranks c =
    ap length (c.deref_mut.ensures.value ∙ c.loop-number.invariant.plans) ∙ probed_ranks c.loop-number.number c.args.seed

pub add_round-requires-clause-from : goal.add_round-requires-clause-from
add_round-requires-clause-from c = (round_is_small c.loop-number.draws.state c.round.result c.round.ensures.round).from

pub add_round-requires-clause-to : goal.add_round-requires-clause-to
add_round-requires-clause-to c = (round_is_small c.loop-number.draws.state c.round.result c.round.ensures.round).to

pub add_round-requires-clause-few : goal.add_round-requires-clause-few
add_round-requires-clause-few c =
    probed_ops_fit_in c.loop-number.number c.args.seed c.deref_mut.result.now (omega arith) (c.deref_mut.ensures.value ∙ c.loop-number.invariant.plans)

pub loop-number-preserved : goal.loop-number-preserved
loop-number-preserved c =
    let n = c.loop-number.number in
    let before = c.deref_mut.ensures.value ∙ c.loop-number.invariant.plans in
    let size = ap length c.in_ok-add_round.ensures ∙ (round_ranks n c.round.result c.deref_mut.result.now ∙ ap length c.deref_mut.ensures.value) in
    record {
      plans =
          borrowed_whole_restored c.loop-number.plans.len c.add_round.new.plans c.loop-number.plans.items size c.loop-number.plans.ok.0
          ∙ (probed_with_another_round n c.args.seed c.round.result c.deref_mut.result.now c.add_round.new.plans before (c.round.ensures.round ∙ ap round_from c.loop-number.invariant.state) c.in_ok-add_round.ensures
          ∙ ap (λ k. probed k c.args.seed) (sym (add-one n)));
      state =
          c.round.ensures.state
          ∙ (ap (λ x. next_state (next_state (next_state (next_state x)))) c.loop-number.invariant.state
          ∙ (state_after_round n c.args.seed ∙ ap (state_before c.args.seed) (sym (add-one n))));
    }
