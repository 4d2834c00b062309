use Rattle.std.proofs.Common.{ℕ, ◌+◌, ◌-◌, ◌<◌, ◌≤◌, length, get_or}
use Rattle.goal_binary.proofs.fields.groups_before_last.Given as goal

-- the bytes counted so far exist, and none is below 128
abbrev pub invariant-loop-count : goal.invariant-loop-count
invariant-loop-count l = record {
  few : l.count ≤ l.most;
  within : 0 < l.count → l.at + l.count ≤ length l.bytes;
  each : (k : ℕ) → k < l.count → 128 ≤ get_or l.bytes (l.at + k) 0;
}

abbrev pub decreases-loop-count : goal.decreases-loop-count
decreases-loop-count l = l.most - l.count
