-- Plans within the limits of counts and values, and the rules about these limits.
use Rattle.std.specs.Prelude.{◌≡◌, true, List, All, ⊤, ◌<◌, ◌≤◌, length}
use Rattle.goal_graph.specs.declared.fault.PlanFault.{PlanFault}
use Rattle.goal_graph.specs.declared.fault.PlanFault.TheVariants.{Count, Value}
use Rattle.goal_graph.specs.declared.plan.Op.{Op}
use Rattle.goal_graph.specs.Schedule.{Plan}
use Rattle.goal_graph.specs.Fault.{value_fits, op_count, dep_count, note_count}
use Rattle.goal_limits.specs.Limits.{rank_limit, op_limit, dep_limit, note_limit}

-- there is a rank, and the numbers of ranks, operations, dependencies and notes are within their limits
pub record AreCountsWithin (plans : List Plan) : Type 0 where
  pub some_rank : 0 < length plans
  pub ranks : length plans ≤ rank_limit
  pub ops : op_count plans ≤ op_limit
  pub deps : dep_count plans ≤ dep_limit
  pub notes : note_count plans ≤ note_limit

-- the size or duration of an operation is within its limit
abbrev pub HasValue : Op → Type 0
HasValue o = value_fits o.kind o.nic ≡ true

abbrev pub HaveValues : Plan → Type 0
HaveValues p = All HasValue p.ops

-- the counts and the values of the plans are within the limits; the plans may break other rules
pub record AreWithinLimits (ps : List Plan) : Type 0 where
  pub counts : AreCountsWithin ps
  pub values : All HaveValues ps

-- the rule is about a count or a value over its limit
abbrev pub IsLimitRule : PlanFault → Type 0
IsLimitRule (Count found limit) = ⊤
IsLimitRule (Value rank op) = ⊤
IsLimitRule _ = ⊥
