use Rattle.std.proofs.Common.{ℕ, ◌<◌, get_or}
use Rattle.goal_graph.specs.declared.plan.Dep.{Dep}
use Rattle.goal_graph.proofs.cycle.all_go_ahead.Given as goal

-- the dependencies so far name greater numbers
abbrev pub invariant-loop-dep : goal.invariant-loop-dep
invariant-loop-dep l = (k : ℕ) (d : Dep) → k < l.dep-index → (get_or l.deps k d).later < (get_or l.deps k d).earlier
