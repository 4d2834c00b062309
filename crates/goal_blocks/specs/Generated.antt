-- The schedule of each of the ten collectives, and for which numbers of ranks it exists.
use Rattle.std.specs.Prelude.{ℕ, ◌+◌, ◌-◌, ◌*◌, ◌<◌, ◌≤◌, List}
use Rattle.std.specs.Int.{IsPowerOfTwo}
use Rattle.goal_graph.specs.Schedule.{Plan}
use Rattle.goal_limits.specs.declared.collective.Collective.{Collective}
use Rattle.goal_limits.specs.declared.collective.Collective.TheVariants.{Bcast, Barrier, Allgather, Allreduce, Alltoall, Reduce, Gather, Scatter, ReduceScatter, Scan}
use Rattle.goal_limits.specs.MostRanks.{most_ranks, HasRoot}
use Rattle.goal_blocks.specs.Entries.{Entry, made_by}
use Rattle.goal_blocks.specs.Positions.{back, digits, rounds, upward}
use Rattle.goal_blocks.specs.Made.{bcast_in, bcast_count, barrier_in, allreduce_in, allgather_in, alltoall_in}
use Rattle.goal_blocks.specs.MadeRooted.{reduce_in, gather_in, scatter_in, reduce_scatter_in, scan_in, scan_count}

-- the number of operations of rank r
abbrev pub count_in : Collective → ℕ → ℕ → ℕ
count_in (Bcast root) ranks r = bcast_count ranks (back ranks r root)
count_in Barrier ranks r = 3 * digits (ranks - 1)
count_in Allgather ranks r = 2 * (ranks - 1)
count_in Allreduce ranks r = 3 * digits (ranks - 1)
count_in Alltoall ranks r = 1 + 2 * (ranks - 1)
count_in (Reduce root) ranks r = 2 * rounds ranks (back ranks r root) + upward (back ranks r root)
count_in (Gather root) ranks r = rounds ranks (back ranks r root) + upward (back ranks r root)
count_in (Scatter root) ranks r = upward (back ranks r root) + rounds ranks (back ranks r root)
count_in ReduceScatter ranks r = 3 * (ranks - 1)
count_in Scan ranks r = scan_count ranks r

-- operation number i of rank r, with messages of `bytes` bytes
abbrev pub entry_in : Collective → ℕ → ℕ → ℕ → ℕ → Entry
entry_in (Bcast root) ranks bytes r i = bcast_in ranks root bytes (back ranks r root) i
entry_in Barrier ranks bytes r i = barrier_in ranks bytes r i
entry_in Allgather ranks bytes r i = allgather_in ranks bytes r i
entry_in Allreduce ranks bytes r i = allreduce_in bytes r i
entry_in Alltoall ranks bytes r i = alltoall_in ranks bytes r i
entry_in (Reduce root) ranks bytes r i = reduce_in ranks root bytes (back ranks r root) i
entry_in (Gather root) ranks bytes r i = gather_in ranks root bytes (back ranks r root) i
entry_in (Scatter root) ranks bytes r i = scatter_in ranks root bytes (back ranks r root) i
entry_in ReduceScatter ranks bytes r i = reduce_scatter_in ranks bytes r i
entry_in Scan ranks bytes r i = scan_in bytes r i

-- the schedule of a collective for these ranks, with messages of `bytes` bytes
unfoldable pub made : Collective → ℕ → ℕ → List Plan
made what ranks bytes = made_by ranks (λ r. count_in what ranks r) (λ r i. entry_in what ranks bytes r i)

-- the number of ranks of an allreduce is a power of two
abbrev pub HasPower : Collective → ℕ → Type 0
HasPower Allreduce ranks = IsPowerOfTwo ranks
HasPower _ ranks = Unit {0}

-- the collective has a schedule for this number of ranks
pub record IsPossible (what : Collective) (ranks : ℕ) : Type 0 where
  pub some_rank : 0 < ranks
  pub few_ranks : ranks ≤ most_ranks what
  pub root : HasRoot what ranks
  pub power : HasPower what ranks
