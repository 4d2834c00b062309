use Rattle.std.proofs.Common.{ℕ, ◌<◌, ◌≤◌, Contains, get_or}
use Rattle.sim_cycles.proofs.heads.least.Given as goal

-- the least of those so far
abbrev pub invariant-loop-at : goal.invariant-loop-at
invariant-loop-at l = record {
  among : Contains l.ring l.least;
  least : (k : ℕ) → k < l.at-index → l.least ≤ get_or l.ring k 0;
}
