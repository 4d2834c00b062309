use Rattle.std.proofs.Common.{◌≡◌, ℕ, ◌<◌, ◌≤◌, ◌-◌, ◌++◌, true, get_or, length, take}
use Rattle.goal_lexer.specs.Bytes.{is_run_byte}
use Rattle.goal_lexer.proofs.stretches.extend_word.Given as goal

abbrev pub invariant-loop-taken : goal.invariant-loop-taken
invariant-loop-taken l = record {
  within : l.taken ≤ length l.bytes;
  each : (k : ℕ) → k < l.taken → is_run_byte (get_or l.bytes k 0) ≡ true;
  word : l.word ≡ l.initial.word ++ take l.taken l.bytes;
  most : 0 < l.taken → length l.word ≤ 64;
}

abbrev pub decreases-loop-taken : goal.decreases-loop-taken
decreases-loop-taken l = length l.bytes - l.taken
