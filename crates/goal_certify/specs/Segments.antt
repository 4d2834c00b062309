-- The faults that certification in segments returns.
use Rattle.std.specs.Prelude.{ℕ, ◌<◌, List, length}
use Rattle.goal_graph.specs.Schedule.{Plan}
use Rattle.goal_limits.specs.declared.collective.Collective.{Collective}
use Rattle.goal_blocks.specs.Faults.{IsCertificationFault}
use Rattle.goal_blocks.specs.Segments.{initial_in, wanted_in, IsCertifiedIn}
use Rattle.goal_certify.specs.declared.segments.SegmentFault.{SegmentFault}

-- the first of `count` blocks in which the schedule is not certified, and its first fault there
pub record IsSegmentFault (what : Collective) (width count : ℕ) (plans : List Plan) (found : SegmentFault) : Type 0 where
  pub block : found.block < count
  pub fault : IsCertificationFault plans (initial_in what width found.block (length plans)) (wanted_in what width found.block (length plans)) found.fault
  pub certified_before : (block : ℕ) → block < found.block → IsCertifiedIn what width block plans
