-- For how many ranks each collective has a schedule, and which roots.
use Rattle.std.specs.Prelude.{ℕ, ◌<◌}
use Rattle.goal_limits.specs.declared.collective.Collective.{Collective}
use Rattle.goal_limits.specs.declared.collective.Collective.TheVariants.{Bcast, Barrier, Allgather, Allreduce, Alltoall, Reduce, Gather, Scatter, ReduceScatter, Scan}
use Rattle.goal_limits.specs.Limits.{rank_limit}

-- the most ranks of a collective
abbrev pub most_ranks : Collective → ℕ
most_ranks (Bcast root) = rank_limit
most_ranks Barrier = 16384
most_ranks Allgather = 512
most_ranks Allreduce = 16384
most_ranks Alltoall = 512
most_ranks (Reduce root) = rank_limit
most_ranks (Gather root) = rank_limit
most_ranks (Scatter root) = rank_limit
most_ranks ReduceScatter = 128
most_ranks Scan = 2048

-- the root, if the collective has one, is a rank
abbrev pub HasRoot : Collective → ℕ → Type 0
HasRoot (Bcast root) ranks = root < ranks
HasRoot (Reduce root) ranks = root < ranks
HasRoot (Gather root) ranks = root < ranks
HasRoot (Scatter root) ranks = root < ranks
HasRoot _ ranks = Unit {0}
