use Rattle.std.proofs.Common.{ℕ, ◌<◌}
use Rattle.goal_blocks.specs.Segments.{IsCertifiedIn}
use Rattle.goal_certify.proofs.segments.certify_segments.Given as goal

-- certified in each block so far
abbrev pub invariant-loop-block : goal.invariant-loop-block
invariant-loop-block l = (block : ℕ) → block < l.block → IsCertifiedIn l.what l.width block l.sched
