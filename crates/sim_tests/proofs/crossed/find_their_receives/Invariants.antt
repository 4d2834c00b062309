use Rattle.std.proofs.Common.{◌≡◌, ℕ, ◌≤◌, false}
use Rattle.goal_graph.specs.declared.action.OpId.{OpId}
use Rattle.goal_graph.specs.declared.action.Class.TheVariants.{Arrive, Post}
use Rattle.goal_graph.specs.Action.{happened}
use Rattle.sim_tests.proofs.crossed.find_their_receives.Given as goal

abbrev pub invariant-posts : goal.invariant-posts
invariant-posts l = record {
  plans : l.matcher.plans ≡ l.sched;
  fresh : (i : ℕ) → l.op ≤ i → happened Post (record { rank = 1; op = i }) l.matcher.actions ≡ false;
  none : (x : OpId) → happened Arrive x l.matcher.actions ≡ false;
}

abbrev pub invariant-arrivals : goal.invariant-arrivals
invariant-arrivals l = record {
  plans : l.matcher.plans ≡ l.sched;
  fresh : (i : ℕ) → l.op ≤ i → happened Arrive (record { rank = 0; op = i }) l.matcher.actions ≡ false;
}
