use Rattle.std.proofs.Common.{refl, arith, sym, ◌∙◌}
use Rattle.goal_base.proofs.numeral.numeral_value.Goals as goal

pub loop-digit-init : goal.loop-digit-init
loop-digit-init c = (refl, omega arith, sym c.are_digits.ensures ∙ c.if-not-are_digits.false, c.if-word-gt-MOST_DIGITS.false)
