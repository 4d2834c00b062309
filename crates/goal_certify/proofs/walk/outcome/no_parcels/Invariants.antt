use Rattle.std.proofs.Common.{◌≡◌, None, replicate}
use Rattle.goal_certify.proofs.walk.outcome.no_parcels.Given as goal

abbrev pub invariant-loop-number : goal.invariant-loop-number
invariant-loop-number l = l.parcels.items ≡ replicate l._number None
