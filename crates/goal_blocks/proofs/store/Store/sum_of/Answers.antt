use Rattle.goal_blocks.proofs.Sorted.{sorted_merge}
use Rattle.goal_blocks.proofs.StoreFacts.{ok_sorted}
use Rattle.goal_blocks.proofs.store.Store.sum_of.Goals as goal

pub returns-clause-sorted : goal.returns-clause-sorted
returns-clause-sorted c = ok_sorted c.merged.result _ c.merged.ensures (sorted_merge _ _ c.value_at-other.ensures.sorted)
