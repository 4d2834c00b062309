use Rattle.std.proofs.Common.{◌≡◌, ℕ, ◌<◌, ◌≤◌, ◌-◌, ◌^◌, true, get_or, length, take}
use Rattle.goal_lexer.specs.Bytes.{is_digit}
use Rattle.goal_lexer.specs.Numbers.{decimal_value}
use Rattle.goal_lexer.proofs.numbers.leading_digits.Given as goal

abbrev pub invariant-loop-count : goal.invariant-loop-count
invariant-loop-count l = record {
  within : l.count ≤ length l.piece;
  few : l.count ≤ 19;
  digits : (k : ℕ) → k < l.count → is_digit (get_or l.piece k 0) ≡ true;
  value : l.value ≡ decimal_value (take l.count l.piece);
  below : l.value < 10 ^ l.count;
}

abbrev pub decreases-loop-count : goal.decreases-loop-count
decreases-loop-count l = length l.piece - l.count
