-- Which operations wait for an operation.
use Rattle.std.specs.Prelude.{List, ◌==◌, map, filter}
use Rattle.goal_graph.specs.declared.action.OpId.{OpId}
use Rattle.goal_graph.specs.declared.plan.Dep.{Dep}
use Rattle.goal_graph.specs.declared.plan.Need.{Need}
use Rattle.goal_graph.specs.Schedule.{Plan, deps_at}

-- the later side of a dependency
abbrev pub later_of : Dep → Need
later_of d = record { op = d.later; when = d.when }

-- the needs that name an operation, each with its later side, in the order of the rank's dependencies
unfoldable pub waiting_on : List Plan → OpId → List Need
waiting_on plans x = map later_of (filter (λ (d : Dep). d.earlier == x.op) (deps_at plans x.rank))
