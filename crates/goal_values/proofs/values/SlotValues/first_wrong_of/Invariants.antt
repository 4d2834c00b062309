use Rattle.std.proofs.Common.{ℕ}
use Rattle.goal_blocks.specs.Segments.{exchange, wanted_in}
use Rattle.goal_values.specs.Kept.{values}
use Rattle.goal_values.proofs.LeastWrong.{IsLeastWrong}
use Rattle.goal_values.proofs.values.SlotValues.first_wrong_of.Given as goal

-- the least wrong one of the slots so far
abbrev pub invariant-loop-place : goal.invariant-loop-place
invariant-loop-place l = IsLeastWrong (λ (k : ℕ). wanted_in l.what l.segment.width l.segment.block l.self.kept.ranks l.rank k (values l.self.kept l.rank k)) (exchange l.segment.width l.segment.block) l.from l.place l.least
