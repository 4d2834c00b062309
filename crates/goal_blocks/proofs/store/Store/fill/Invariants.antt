use Rattle.std.proofs.Common.{ℕ, ◌≡◌, ◌+◌, ◌≤◌, ◌^◌, All, IsSome, length}
use Rattle.std.specs.List.{sum_by}
use Rattle.std.specs.Vec.Iter.{into_iter_items, into_iter_len}
use Rattle.goal_limits.specs.Limits.{weight_limit}
use Rattle.goal_blocks.specs.Values.{Value, write}
use Rattle.goal_blocks.specs.Weight.{stored}
use Rattle.goal_blocks.specs.Stored.{values, written_at, lists_of, IsSorted}
use Rattle.goal_blocks.proofs.store.Store.fill.Given as goal

-- writing what is left completes it
abbrev pub invariant-loop-value : goal.invariant-loop-value
invariant-loop-value l =
    (goal.iterator-loop-value).can_next l.value-iterator ×
    (goal.iterator-loop-value).is_finite l.value-iterator ×
    (length (into_iter_items l.value-iterator) ≡ length l.left) ×
    (write l.rank l.left (lists_of (into_iter_items l.value-iterator)) (values l.self) ≡ write l.rank l.slots (lists_of l.fn.list.items) (values l.initial.self)) ×
    All IsSorted (lists_of (into_iter_items l.value-iterator)) ×
    (l.self.ranks ≡ l.initial.self.ranks) ×
    All (λ k. IsSome (written_at l.initial.self (l.rank, k))) l.left ×
    ((k : ℕ) → IsSome (written_at l.initial.self (l.rank, k)) → IsSome (written_at l.self (l.rank, k))) ×
    (stored l.self.ranks (values l.self) + sum_by (λ (v : Value). length v) (lists_of (into_iter_items l.value-iterator)) ≤ weight_limit) ×
    (into_iter_len l.value-iterator ≡ length (into_iter_items l.value-iterator))
