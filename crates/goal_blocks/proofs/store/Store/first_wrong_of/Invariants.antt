use Rattle.std.proofs.Common.{ℕ, ◌≡◌, ◌<◌, true}
use Rattle.goal_blocks.specs.Collectives.{wanted}
use Rattle.goal_blocks.specs.Stored.{values}
use Rattle.goal_blocks.proofs.store.Store.first_wrong_of.Given as goal

-- each slot so far is right
abbrev pub invariant-loop-slot : goal.invariant-loop-slot
invariant-loop-slot l = (k : ℕ) → k < l.slot → wanted l.what l.self.ranks l.rank k (values l.self l.rank k) ≡ true
