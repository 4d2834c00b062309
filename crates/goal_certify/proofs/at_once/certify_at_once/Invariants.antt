use Rattle.std.proofs.Common.{ℕ, ◌<◌}
use Rattle.goal_certify.specs.AtOnce.{IsCertifiedApart}
use Rattle.goal_certify.proofs.at_once.certify_at_once.Given as goal

-- each segment so far keeps out of the blocks of the others
abbrev pub invariant-loop-block : goal.invariant-loop-block
invariant-loop-block l = (block : ℕ) → block < l.block → IsCertifiedApart l.what l.width l.count block l.sched
