use Rattle.std.proofs.Common.{ℕ, ◌<◌, get_or}
use Rattle.goal_graph.specs.declared.plan.Dep.{Dep}
use Rattle.goal_graph.proofs.cycle.all_go_back.Given as goal

-- the dependencies so far name lesser numbers
abbrev pub invariant-loop-dep : goal.invariant-loop-dep
invariant-loop-dep l = (k : ℕ) (d : Dep) → k < l.dep-index → (get_or l.deps k d).earlier < (get_or l.deps k d).later
