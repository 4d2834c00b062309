use Rattle.std.proofs.Common.{ℕ, ◌≡◌, ◌<◌, true}
use Rattle.goal_blocks.specs.Joined.{keeps_out}
use Rattle.goal_values.specs.Kept.{values}
use Rattle.goal_certify.proofs.walk.stray.first_stray.Given as goal

-- no slot of the ranks so far is stray
abbrev pub invariant-loop-rank : goal.invariant-loop-rank
invariant-loop-rank l = (r k : ℕ) → r < l.rank → keeps_out l.segment.width l.count l.segment.block r k (values l.store.kept r k) ≡ true
