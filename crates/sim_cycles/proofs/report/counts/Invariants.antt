use Rattle.std.proofs.Common.{ℕ, ◌<◌, ◌≡◌, ◌==◌, length, get_or, take, count_by}
use Rattle.sim_cycles.proofs.report.counts.Given as goal

-- how many of the heads so far
abbrev pub invariant-loop-head : goal.invariant-loop-head
invariant-loop-head l = record {
  long : length l.counts.items ≡ length l.heads;
  each : (i : ℕ) → i < length l.heads → get_or l.counts.items i 0 ≡ count_by (λ (h : ℕ). h == i) (take l.head-index l.heads);
}
