use Rattle.std.proofs.Common.{ℕ}
use Rattle.goal_graph.specs.declared.plan.Dep.{Dep}
use Rattle.goal_graph.specs.declared.plan.When.TheVariants.{AfterEnd}
use Rattle.goal_blocks.proofs.PlanBy.{next_item}
use Rattle.goal_blocks.proofs.steps.push_needs_below.Goals as goal

needed_by : ℕ → ℕ → Dep
needed_by later k = record { later = later; earlier = k; when = AfterEnd }

pub loop-earlier-preserved : goal.loop-earlier-preserved
unfolding needed_by
loop-earlier-preserved c =
    next_item (needed_by c.args.later) c.loop-earlier.earlier c.args.deps.now.items c.loop-earlier.deps.items c.push_need.new.deps.items c.loop-earlier.invariant c.in_ok-push_need.ensures
