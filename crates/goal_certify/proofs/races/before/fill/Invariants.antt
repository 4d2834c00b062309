use Rattle.std.proofs.Common.{ℕ, ◌≡◌, ◌<◌, ◌+◌, ◌-◌, ◌*◌, true, false, length, get_or, slice_index_or}
use Rattle.goal_certify.specs.Before.{AreRows}
use Rattle.goal_certify.proofs.Paths.{IsPath, undone}
use Rattle.goal_certify.proofs.races.before.fill.Given as goal

-- the path begins with the operation, until it is done
abbrev pub invariant-loop-op : goal.invariant-loop-op
invariant-loop-op l = record {
  rows : AreRows l.sched l.id.rank l.rows (λ k. slice_index_or l.done k false ≡ true);
  path : IsPath l.sched l.id.rank l.done l.path.items;
  first : 0 < length l.path.items → get_or l.path.items 0 0 ≡ l.id.op;
  last : length l.path.items ≡ 0 → slice_index_or l.done l.id.op false ≡ true;
  kept : (k : ℕ) → slice_index_or l.initial.done k false ≡ true → slice_index_or l.done k false ≡ true;
}

-- an operation more is done, or the path goes on, which it does at most 2,048 times
abbrev pub decreases-loop-op : goal.decreases-loop-op
decreases-loop-op l = 4096 * undone l.done + (2049 - length l.path.items)
