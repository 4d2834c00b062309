use Rattle.std.proofs.Common.{ℕ, ◌<◌, ◌≡◌, get_or, length}
use Rattle.sim_cycles.specs.Walks.{IsHeadOf}
use Rattle.sim_cycles.specs.Places.{target_at}
use Rattle.sim_cycles.proofs.heads.known.Given as goal

-- the heads so far
abbrev pub invariant-loop-mark : goal.invariant-loop-mark
invariant-loop-mark l = record {
  long : length l.heads.items ≡ l.mark-index;
  each : (i : ℕ) → i < l.mark-index → IsHeadOf (target_at l.targets) i (get_or l.heads.items i 0);
}
