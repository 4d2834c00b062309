use Rattle.std.proofs.Common.{◌≡◌, ◌+◌, ◌*◌, ◌^◌, ◌≤◌, length}
use Rattle.std.specs.List.{sum_by}
use Rattle.goal_limits.specs.Limits.{weight_limit}
use Rattle.goal_blocks.specs.Stored.{values}
use Rattle.goal_blocks.proofs.store.Store.payload_size.Given as goal

-- with the sizes of the slots that are left it is the whole size
abbrev pub invariant-loop-slot : goal.invariant-loop-slot
invariant-loop-slot l = record {
  whole : l.size + sum_by (λ k. length (values l.self l.rank k)) l.left ≡ sum_by (λ k. length (values l.self l.rank k)) l.slots;
  few : l.size + length l.left * weight_limit ≤ length l.slots * weight_limit;
}

abbrev pub decreases-loop-slot : goal.decreases-loop-slot
decreases-loop-slot l = length l.left
