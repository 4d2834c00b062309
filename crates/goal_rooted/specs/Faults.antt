-- When a reduce, gather, scatter, reduce_scatter or scan has no schedule, and why.
use Rattle.std.specs.Prelude.{ℕ, ◌≡◌, ◌<◌, ◌⊎◌}
use Rattle.goal_limits.specs.declared.collective.Collective.{Collective}
use Rattle.goal_blocks.specs.declared.gen_fault.GenFault.{GenFault}
use Rattle.goal_blocks.specs.declared.gen_fault.GenFault.TheVariants as gen
use Rattle.goal_limits.specs.MostRanks.{most_ranks, HasRoot}
use Rattle.goal_blocks.specs.Generated.{IsPossible}
use Rattle.goal_blocks.specs.GenFaults.{AreRanksWithin}
use Rattle.goal_rooted.specs.declared.fault.RootedFault.{RootedFault}
use Rattle.goal_rooted.specs.declared.fault.RootedFault.TheVariants.{Ranks, Root, NoMemory}

-- The first fault: the number of ranks is checked before the root. Memory can run out only if there is no other fault.
abbrev pub IsRootedFault : Collective → ℕ → RootedFault → Type 0
IsRootedFault what ranks (Ranks limit) = (limit ≡ most_ranks what) × ((ranks ≡ 0) ⊎ (most_ranks what < ranks))
IsRootedFault what ranks Root = AreRanksWithin what ranks × (HasRoot what ranks → ⊥)
IsRootedFault what ranks NoMemory = IsPossible what ranks

-- the same fault, as one of all ten collectives
abbrev pub as_gen_fault : RootedFault → GenFault
as_gen_fault (Ranks limit) = gen.Ranks limit
as_gen_fault Root = gen.Root
as_gen_fault NoMemory = gen.NoMemory
