-- Which of the ten collectives `generate` makes, and a fact on roots that only the code uses.
use Rattle.std.specs.Prelude.{ℕ, Bool, true, false}
use Rattle.std.proofs.Props.{props}
use Rattle.goal_limits.specs.declared.collective.Collective.{Collective}
use Rattle.goal_limits.specs.declared.collective.Collective.TheVariants.{Bcast, Reduce, Gather, Scatter, Barrier, Allgather, Allreduce, Alltoall}
use Rattle.goal_limits.specs.MostRanks.{HasRoot}

-- two proofs that a collective has its root are equal
pub HasRoot-prop : (what : Collective) (ranks : ℕ) → IsProp (HasRoot what ranks)
HasRoot-prop (Bcast root) ranks = hlevel props
HasRoot-prop (Reduce root) ranks = hlevel props
HasRoot-prop (Gather root) ranks = hlevel props
HasRoot-prop (Scatter root) ranks = hlevel props
HasRoot-prop _ ranks = hlevel props

-- its schedule comes from `generate` of goal_collectives, and otherwise from `generate_rooted` of goal_rooted
abbrev pub is_made_by_generate : Collective → Bool
is_made_by_generate (Bcast root) = true
is_made_by_generate Barrier = true
is_made_by_generate Allgather = true
is_made_by_generate Allreduce = true
is_made_by_generate Alltoall = true
is_made_by_generate _ = false
