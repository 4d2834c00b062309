use Rattle.std.proofs.Common.{◌≡◌, ◌≤◌, ◌<◌, ◌+◌, ◌-◌, ◌*◌, ℕ, List, ◌++◌, length, take, drop, true, false, if◌then◌else◌}
use Rattle.goal_lexer.specs.Stands.{begins_run}
use Rattle.goal_parser.specs.Reader.{StandsFor}
use Rattle.goal_parser.proofs.reader.Reader.feed.Given as goal

abbrev pub invariant-loop-at : goal.invariant-loop-at
invariant-loop-at l = record {
  within : l.at ≤ length l.piece;
  place : l.self.place ≡ l.initial.self.place + l.at;
  same : l.self.lexer.place ≡ l.self.place;
  apart : l.self.lexer.ends_run ≡ true → begins_run (drop l.at l.piece) ≡ false;
  left : l.self.lexer.ends_run ≡ true → l.at < length l.piece;
  stands : (text : List ℕ) → StandsFor l.initial.self text → StandsFor l.self (text ++ take l.at l.piece);
}

-- the bytes left, and whether the run before them was returned
abbrev pub decreases-loop-at : goal.decreases-loop-at
decreases-loop-at l = 2 * (length l.piece - l.at) + (if l.self.lexer.ends_run then 0 else 1)
