use Rattle.std.proofs.Common.{◌≡◌, ℕ, ◌<◌, ◌==◌, false, get_or}
use Rattle.goal_lexer.specs.Bytes.{star}
use Rattle.goal_lexer.proofs.stretches.count_before_star.Given as goal

abbrev pub invariant-loop-n : goal.invariant-loop-n
invariant-loop-n l = (k : ℕ) → k < l.n → (get_or l.bytes k 0 == star) ≡ false
