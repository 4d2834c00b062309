use Rattle.std.proofs.Common.{sym, subst, arith}
use Rattle.sim_state.specs.Represents.{Represents}
use Rattle.sim_state.proofs.Empty.{unheld_is_free_at_start, new_matcher_knows_empty_history}
use Rattle.sim_state.proofs.state.RunState.new.Goals as goal

pub invariant_of-result : goal.invariant_of-result
invariant_of-result g c =
    let plans = c.args.sched.now in
    let costs = g.C.Costs.model c.args.costs in
    subst (λ h. Represents plans costs h c.in_ok-entries.entries.items c.in_ok-matcher.matcher c.in_ok-resources.resources (g.H.History.has_room c.in_ok-history.history)) (sym c.in_ok-history.ensures.empty) (record {
      accepted = c.plans-plans.ensures.accepted;
      within = omega (arith, c.budget-sum.ensures, c.if-sum-most.false);
      run = tt;
      known = c.in_ok-entries.ensures;
      posts_and_arrivals = new_matcher_knows_empty_history plans costs c.in_ok-matcher.matcher c.in_ok-matcher.ensures;
      free = unheld_is_free_at_start plans costs c.in_ok-resources.resources c.in_ok-resources.ensures;
      roomy = subst (g.H.History.has_room c.in_ok-history.history) (omega (arith, c.count-count.ensures.count)) c.in_ok-history.ensures.roomy;
    })
