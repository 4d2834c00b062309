use Rattle.std.proofs.Common.{◌≡◌, ℕ, ◌<◌, ◌==◌, false, get_or}
use Rattle.goal_lexer.specs.Bytes.{line_feed}
use Rattle.goal_lexer.proofs.stretches.count_in_line.Given as goal

abbrev pub invariant-loop-n : goal.invariant-loop-n
invariant-loop-n l = (k : ℕ) → k < l.n → (get_or l.bytes k 0 == line_feed) ≡ false
