use Rattle.std.proofs.Common.{ℕ, ◌≡◌, ◌<◌, ◌≤◌, get_or, true}
use Rattle.goal_blocks.specs.Collectives.{has_one}
use Rattle.goal_blocks.proofs.Wishes.{item_of}
use Rattle.goal_blocks.proofs.wanted.has_of_each.Given as goal

-- the ranks below `next` are found, and `next` is not among those so far
abbrev pub invariant-loop-one : goal.invariant-loop-one
invariant-loop-one l =
    (l.next ≤ l.count) × ((q : ℕ) → q < l.next → has_one l.value (item_of q 0) ≡ true) × (l.next < l.count → (k : ℕ) → k < l.one-index → get_or l.value k (item_of 0 0) ≡ item_of l.next 0 → ⊥)
