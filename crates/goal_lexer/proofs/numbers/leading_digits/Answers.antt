use Rattle.std.proofs.Common.{◌≤◌, ◌^◌, arith}
use Rattle.std.proofs.Math.Nat.{pow-le-pow_right}
use Rattle.goal_lexer.proofs.numbers.leading_digits.Goals as goal

pub overflow_mul-value : goal.overflow_mul-value
overflow_mul-value c =
    let was = c.loop-count.invariant in
    let high : 10 ^ c.loop-count.count ≤ 10 ^ 18 = pow-le-pow_right {n = 10} (omega arith) {i = c.loop-count.count} {j = 18} (omega arith) in
    omega (arith, was.below)

pub overflow_add-value : goal.overflow_add-value
overflow_add-value c =
    let was = c.loop-count.invariant in
    let high : 10 ^ c.loop-count.count ≤ 10 ^ 18 = pow-le-pow_right {n = 10} (omega arith) {i = c.loop-count.count} {j = 18} (omega arith) in
    omega (arith, was.below)
