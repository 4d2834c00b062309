use Rattle.std.proofs.Common.{◌≡◌, ◌≤◌, ◌<◌, ◌+◌, ◌-◌, ◌*◌, length, drop, true, false, if◌then◌else◌}
use Rattle.goal_lexer.specs.Stands.{begins_run}
use Rattle.goal_tests.proofs.lexer.feed.Given as goal

abbrev pub invariant-loop-at : goal.invariant-loop-at
invariant-loop-at l = record {
  within : l.at ≤ length l.piece;
  place : l.lexer.place ≡ l.initial.lexer.place + l.at;
  apart : l.lexer.ends_run ≡ true → begins_run (drop l.at l.piece) ≡ false;
  left : l.lexer.ends_run ≡ true → l.at < length l.piece;
}

-- the number of bytes left, and whether the token before them was returned
abbrev pub decreases-loop-at : goal.decreases-loop-at
decreases-loop-at l = 2 * (length l.piece - l.at) + (if l.lexer.ends_run then 0 else 1)
