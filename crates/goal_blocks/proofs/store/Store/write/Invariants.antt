use Rattle.std.proofs.Common.{ℕ, ◌≡◌, ◌⊎◌, Contains, IsSome, length}
use Rattle.goal_blocks.specs.Stored.{values, written_at}
use Rattle.goal_blocks.proofs.store.Store.write.Given as goal

-- the values stay, and each slot that is not left is set
abbrev pub invariant-loop-slot : goal.invariant-loop-slot
invariant-loop-slot l = record {
  same : values l.self ≡ values l.initial.self;
  ranks : l.self.ranks ≡ l.initial.self.ranks;
  set : (k : ℕ) → Contains l.slots k → Contains l.left k ⊎ IsSome (written_at l.self (l.rank, k));
}

abbrev pub decreases-loop-slot : goal.decreases-loop-slot
decreases-loop-slot l = length l.left
