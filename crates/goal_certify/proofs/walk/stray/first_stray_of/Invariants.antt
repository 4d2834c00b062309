use Rattle.std.proofs.Common.{ℕ, ◌≡◌, ◌<◌, true}
use Rattle.goal_blocks.specs.Joined.{keeps_out}
use Rattle.goal_values.specs.Kept.{values}
use Rattle.goal_certify.proofs.walk.stray.first_stray_of.Given as goal

-- none of the slots so far is stray
abbrev pub invariant-loop-slot : goal.invariant-loop-slot
invariant-loop-slot l = (k : ℕ) → k < l.slot → keeps_out l.segment.width l.count l.segment.block l.rank k (values l.store.kept l.rank k) ≡ true
