use Rattle.std.proofs.Common.{ℕ, ◌≡◌, ◌<◌, get_or}
use Rattle.goal_blocks.proofs.Wishes.{item_of}
use Rattle.goal_blocks.proofs.wanted.is_of_each.Given as goal

-- each rank so far has its place
abbrev pub invariant-loop-rank : goal.invariant-loop-rank
invariant-loop-rank l = (k : ℕ) → k < l.rank → get_or l.value k (item_of 0 0) ≡ item_of k l.item
