use Rattle.std.proofs.Common.{◌≡◌, take}
use Rattle.goal_lexer.specs.Numbers.{number_value}
use Rattle.goal_lexer.proofs.numbers.number_value.Given as goal

abbrev pub invariant-loop-digit : goal.invariant-loop-digit
invariant-loop-digit l = l.value ≡ number_value (take l.digit-index l.digits)
