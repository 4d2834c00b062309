use Rattle.std.proofs.Common.{ℕ, ◌<◌, ◌≡◌, length}
use Rattle.sim_cycles.specs.Places.{target_at, IsTarget}
use Rattle.sim_cycles.proofs.targets.targets.Given as goal

-- the targets so far
abbrev pub invariant-loop-at : goal.invariant-loop-at
invariant-loop-at l = record {
  long : length l.targets.items ≡ l.at;
  each : (i : ℕ) → i < l.at → IsTarget l.list i (target_at l.targets.items i);
}
