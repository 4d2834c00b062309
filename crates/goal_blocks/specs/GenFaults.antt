-- When a collective has no schedule, and why.
use Rattle.std.specs.Prelude.{ℕ, ◌≡◌, ◌<◌, ◌≤◌, ◌⊎◌}
use Rattle.goal_limits.specs.declared.collective.Collective.{Collective}
use Rattle.goal_limits.specs.MostRanks.{most_ranks, HasRoot}
use Rattle.goal_blocks.specs.Generated.{HasPower, IsPossible}
use Rattle.goal_blocks.specs.declared.gen_fault.GenFault.{GenFault}
use Rattle.goal_blocks.specs.declared.gen_fault.GenFault.TheVariants.{Ranks, Root, NotPowerOfTwo, NoMemory}

-- there are ranks, and not too many
pub record AreRanksWithin (what : Collective) (ranks : ℕ) : Type 0 where
  pub some_rank : 0 < ranks
  pub few_ranks : ranks ≤ most_ranks what

-- The first fault of a collective: that of the ranks comes before that of the root, and that before the power of two.
-- Memory can run out only if there is none.
abbrev pub IsGenFault : Collective → ℕ → GenFault → Type 0
IsGenFault what ranks (Ranks limit) = (limit ≡ most_ranks what) × ((ranks ≡ 0) ⊎ (most_ranks what < ranks))
IsGenFault what ranks Root = AreRanksWithin what ranks × (HasRoot what ranks → ⊥)
IsGenFault what ranks NotPowerOfTwo = AreRanksWithin what ranks × HasRoot what ranks × (HasPower what ranks → ⊥)
IsGenFault what ranks NoMemory = IsPossible what ranks
