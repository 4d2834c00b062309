use Rattle.std.proofs.Common.{◌≡◌, ℕ, ◌<◌, ◌≤◌, ◌-◌, true, get_or, length}
use Rattle.goal_lexer.specs.Bytes.{is_run_byte}
use Rattle.goal_lexer.proofs.stretches.count_run.Given as goal

abbrev pub invariant-loop-count : goal.invariant-loop-count
invariant-loop-count l = record {
  within : l.count ≤ length l.bytes;
  each : (k : ℕ) → k < l.count → is_run_byte (get_or l.bytes k 0) ≡ true;
}

abbrev pub decreases-loop-count : goal.decreases-loop-count
decreases-loop-count l = length l.bytes - l.count

abbrev pub invariant-loop-count-2 : goal.invariant-loop-count-2
invariant-loop-count-2 l = record {
  within : l.count ≤ length l.bytes;
  each : (k : ℕ) → k < l.count → is_run_byte (get_or l.bytes k 0) ≡ true;
}

abbrev pub decreases-loop-count-2 : goal.decreases-loop-count-2
decreases-loop-count-2 l = length l.bytes - l.count
