use Rattle.std.proofs.Common.{◌≡◌, ℕ, ◌<◌, true, get_or}
use Rattle.goal_lexer.specs.Bytes.{is_blank}
use Rattle.goal_lexer.proofs.stretches.count_blanks.Given as goal

abbrev pub invariant-loop-n : goal.invariant-loop-n
invariant-loop-n l = (k : ℕ) → k < l.n → is_blank (get_or l.bytes k 0) ≡ true
