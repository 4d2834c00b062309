use Rattle.std.proofs.Common.{◌≡◌, replicate}
use Rattle.goal_parser.specs.Plans.{empty_plan}
use Rattle.goal_parser.proofs.plans.empty_plans.Given as goal

abbrev pub invariant-loop-i : goal.invariant-loop-i
invariant-loop-i l = l.plans.items ≡ replicate l.i empty_plan
