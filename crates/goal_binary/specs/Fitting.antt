-- Plans that have a file: their counts and sizes are within the limits, and their numbers fit their fields. They may
-- break the other rules of schedules.
use Rattle.std.specs.Prelude.{◌≡◌, ◌^◌, ◌<◌, true, List, All}
use Rattle.goal_graph.specs.declared.plan.Op.{Op}
use Rattle.goal_graph.specs.declared.plan.Dep.{Dep}
use Rattle.goal_graph.specs.Schedule.{Plan}
use Rattle.goal_graph.specs.Fault.{value_fits}
use Rattle.goal_graph.specs.Limits.{AreCountsWithin}
use Rattle.goal_graph.specs.Widths.{IsOpInWidth, IsNoteInWidth}

-- an operation
pub record OpFits (o : Op) : Type 0 where
  pub width : IsOpInWidth o
  pub value : value_fits o.kind o.nic ≡ true

-- a dependency
pub record DepFits (d : Dep) : Type 0 where
  pub later : d.later < 2 ^ 32
  pub earlier : d.earlier < 2 ^ 32

-- a rank
pub record PlanFits (p : Plan) : Type 0 where
  pub ops : All OpFits p.ops
  pub deps : All DepFits p.deps
  pub notes : All IsNoteInWidth p.notes

-- all ranks
pub record HaveFile (plans : List Plan) : Type 0 where
  pub counts : AreCountsWithin plans
  pub ranks : All PlanFits plans
