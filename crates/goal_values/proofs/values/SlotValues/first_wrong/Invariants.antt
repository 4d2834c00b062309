use Rattle.std.proofs.Common.{ℕ, ◌≡◌, ◌<◌, true}
use Rattle.goal_blocks.specs.Segments.{wanted_in}
use Rattle.goal_values.specs.Kept.{values}
use Rattle.goal_values.proofs.values.SlotValues.first_wrong.Given as goal

-- each slot of the ranks so far is right
abbrev pub invariant-loop-rank : goal.invariant-loop-rank
invariant-loop-rank l = (r k : ℕ) → r < l.rank → wanted_in l.what l.segment.width l.segment.block l.self.kept.ranks r k (values l.self.kept r k) ≡ true
