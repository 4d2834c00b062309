-- The schedule of each of the ten collectives is accepted.
use Rattle.std.proofs.Common.{ℕ, ◌≤◌}
use Rattle.goal_limits.specs.declared.limits.TheConstants.{MAX_BYTES}
use Rattle.goal_graph.specs.Fault.{IsAccepted}
use Rattle.goal_limits.specs.declared.collective.Collective.{Collective}
use Rattle.goal_limits.specs.declared.collective.Collective.TheVariants.{Bcast, Barrier, Allgather, Allreduce, Alltoall, Reduce, Gather, Scatter, ReduceScatter, Scan}
use Rattle.goal_blocks.specs.Fitting.{AreFitting}
use Rattle.goal_blocks.specs.Generated.{count_in, entry_in, made, IsPossible}
use Rattle.goal_blocks.proofs.Fitting.{fitting_accepted}
use Rattle.goal_blocks.proofs.MadeFits.{bcast_fits, barrier_fits, allgather_fits, allreduce_fits, alltoall_fits, reduce_scatter_fits, scan_fits}
use Rattle.goal_blocks.proofs.RootedFits.{reduce_fits, gather_fits, scatter_fits}

pub made_fits : (what : Collective) (ranks bytes : ℕ) → IsPossible what ranks → bytes ≤ MAX_BYTES → AreFitting ranks (λ r. count_in what ranks r) (λ r i. entry_in what ranks bytes r i)
made_fits (Bcast root) ranks bytes p small = bcast_fits ranks bytes small root p.root p.few_ranks
made_fits Barrier ranks bytes p small = barrier_fits ranks bytes small p.some_rank p.few_ranks
made_fits Allgather ranks bytes p small = allgather_fits ranks bytes small p.some_rank p.few_ranks
made_fits Allreduce ranks bytes p small = allreduce_fits ranks bytes small p.few_ranks p.power
made_fits Alltoall ranks bytes p small = alltoall_fits ranks bytes small p.some_rank p.few_ranks
made_fits (Reduce root) ranks bytes p small = reduce_fits ranks bytes small root p.root p.few_ranks
made_fits (Gather root) ranks bytes p small = gather_fits ranks bytes small root p.root p.few_ranks
made_fits (Scatter root) ranks bytes p small = scatter_fits ranks bytes small root p.root p.few_ranks
made_fits ReduceScatter ranks bytes p small = reduce_scatter_fits ranks bytes small p.some_rank p.few_ranks
made_fits Scan ranks bytes p small = scan_fits ranks bytes small p.some_rank p.few_ranks

pub made_accepted : (what : Collective) (ranks bytes : ℕ) → IsPossible what ranks → bytes ≤ MAX_BYTES → IsAccepted (made what ranks bytes)
unfolding made
made_accepted what ranks bytes p small = fitting_accepted ranks (λ r. count_in what ranks r) (λ r i. entry_in what ranks bytes r i) (made_fits what ranks bytes p small)
