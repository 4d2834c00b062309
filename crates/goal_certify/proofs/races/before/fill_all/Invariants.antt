use Rattle.std.proofs.Common.{ℕ, ◌≡◌, ◌<◌, true, false, [], slice_index_or}
use Rattle.goal_certify.specs.Before.{AreRows}
use Rattle.goal_certify.proofs.races.before.fill_all.Given as goal

-- the operations so far are done
abbrev pub invariant-loop-op : goal.invariant-loop-op
invariant-loop-op l = record {
  rows : AreRows l.sched l.rank l.rows (λ k. slice_index_or l.done k false ≡ true);
  so_far : (k : ℕ) → k < l.op → slice_index_or l.done k false ≡ true;
  path : l.path.items ≡ [];
}
