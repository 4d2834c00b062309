use Rattle.std.proofs.Common.{ℕ, ◌≡◌, ◌<◌, true}
use Rattle.goal_blocks.specs.Collectives.{wanted}
use Rattle.goal_blocks.specs.Stored.{values}
use Rattle.goal_blocks.proofs.store.Store.first_wrong.Given as goal

-- each slot of the ranks so far is right
abbrev pub invariant-loop-rank : goal.invariant-loop-rank
invariant-loop-rank l = (r k : ℕ) → r < l.rank → wanted l.what l.self.ranks r k (values l.self r k) ≡ true
