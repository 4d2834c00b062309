use Rattle.std.proofs.Common.{◌≡◌, ℕ, ◌++◌, map}
use Rattle.std.specs.List.{range_with_len}
use Rattle.goal_graph.specs.declared.plan.When.TheVariants.{AfterEnd}
use Rattle.goal_blocks.proofs.steps.push_needs_below.Given as goal

abbrev pub invariant-loop-earlier : goal.invariant-loop-earlier
invariant-loop-earlier l =
    l.deps.items ≡ l.fn.deps.items ++ map (λ (k : ℕ). record { later = l.fn.later; earlier = k; when = AfterEnd }) (range_with_len 0 l.earlier)
