use Rattle.std.proofs.Common.{arith}
use Rattle.goal_blocks.proofs.Starts.{size_of, stored_bcast, stored_bcast_none, stored_scatter, stored_scatter_none, stored_alltoall, stored_reduce_scatter, stored_barrier, stored_allgather, stored_allreduce, stored_reduce, stored_gather, stored_scan}
use Rattle.goal_blocks.proofs.wanted.initial_size.Goals as goal

pub returns-then-root-ranks : goal.returns-then-root-ranks
returns-then-root-ranks c = size_of _ _ _ _ c.in-Bcast.is (stored_bcast _ _ (omega (arith, c.if-root-ranks.true)))

pub returns-else-root-ranks : goal.returns-else-root-ranks
returns-else-root-ranks c = size_of _ _ _ _ c.in-Bcast.is (stored_bcast_none _ _ (omega (arith, c.if-root-ranks.false)))

pub returns-then-root-ranks-2 : goal.returns-then-root-ranks-2
returns-then-root-ranks-2 c = size_of _ _ _ _ c.in-Scatter.is (stored_scatter _ _ c.requires.few (omega (arith, c.if-root-ranks-2.true)))

pub returns-else-root-ranks-2 : goal.returns-else-root-ranks-2
returns-else-root-ranks-2 c = size_of _ _ _ _ c.in-Scatter.is (stored_scatter_none _ _ c.requires.few (omega (arith, c.if-root-ranks-2.false)))

pub returns-in-Barrier : goal.returns-in-Barrier
returns-in-Barrier c = size_of _ _ _ _ c.in-Barrier.is (stored_barrier _)

pub returns-in-Allgather : goal.returns-in-Allgather
returns-in-Allgather c = size_of _ _ _ _ c.in-Allgather.is (stored_allgather _ c.requires.few)

pub returns-in-Allreduce : goal.returns-in-Allreduce
returns-in-Allreduce c = size_of _ _ _ _ c.in-Allreduce.is (stored_allreduce _)

pub returns-in-Alltoall : goal.returns-in-Alltoall
returns-in-Alltoall c = size_of _ _ _ _ c.in-Alltoall.is (stored_alltoall _ c.requires.few)

pub returns-in-Reduce : goal.returns-in-Reduce
returns-in-Reduce c = size_of _ _ _ _ c.in-Reduce.is (stored_reduce _ _)

pub returns-in-Gather : goal.returns-in-Gather
returns-in-Gather c = size_of _ _ _ _ c.in-Gather.is (stored_gather _ _ c.requires.few)

pub returns-in-ReduceScatter : goal.returns-in-ReduceScatter
returns-in-ReduceScatter c = size_of _ _ _ _ c.in-ReduceScatter.is (stored_reduce_scatter _ c.requires.few)

pub returns-in-Scan : goal.returns-in-Scan
returns-in-Scan c = size_of _ _ _ _ c.in-Scan.is (stored_scan _)
