use Rattle.std.proofs.Common.{ap, sym, subst}
use Rattle.goal_graph.specs.Schedule.{operations}
use Rattle.sim_match.specs.PostsAndArrivals.{PostsAndArrivals}
use Rattle.goal_certify.specs.WalkSoFar.{acts, Represents}
use Rattle.goal_certify.proofs.Performed.{nothing_known}
use Rattle.goal_certify.proofs.walk.state.WalkState.new.Goals as goal
use Rattle.goal_graph.proofs.ForCallers.{fresh_table}

pub invariant_of-result : goal.invariant_of-result
invariant_of-result c =
    let plans = c.args.sched.now in
    let entries = c.in_ok-entries.ensures.items_if_clones_equal (λ y h. h) in
    subst (λ items. Represents plans (acts items) c.in_ok-entries.entries.items c.in_ok-matcher.matcher) (sym c.new-2.ensures) (record {
      accepted = c.plans-plans.ensures.accepted;
      allowed_each = tt;
      known = fresh_table _ _ (operations plans) _ _ c.count-count.ensures.count entries (nothing_known plans);
      same_plans = ap (λ (m : PostsAndArrivals). m.plans) c.in_ok-matcher.ensures;
      events = ap (λ (m : PostsAndArrivals). m.actions) c.in_ok-matcher.ensures;
    })
