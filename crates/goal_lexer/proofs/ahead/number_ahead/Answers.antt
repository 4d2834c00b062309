use Rattle.std.proofs.Common.{◌+◌, ◌*◌, sym, arith}
use Rattle.goal_lexer.proofs.FoundAheadLaws.{one_digit_ahead, two_digits_ahead, three_digits_ahead, four_digits_ahead, digit_is_at_most_57}
use Rattle.goal_lexer.proofs.ahead.number_ahead.Goals as goal

pub returns-then-not-is_run_byte-clause-ahead : goal.returns-then-not-is_run_byte-clause-ahead
returns-then-not-is_run_byte-clause-ahead c some place =
    one_digit_ahead place c.from-ones.result c.args.rest.now (omega arith) c.if-rest-ne32.false (sym c.if-not-is_digit.ensures)
    (digit_is_at_most_57 _ (sym c.if-not-is_digit.ensures)) (sym c.if-not-is_run_byte.ensures) (omega (arith, c.from-ones.ensures))

pub returns-then-not-is_run_byte-2-clause-ahead : goal.returns-then-not-is_run_byte-2-clause-ahead
returns-then-not-is_run_byte-2-clause-ahead c some place =
    two_digits_ahead place (c.from-ones.result * 10 + c.from.result) c.args.rest.now (omega arith) c.if-rest-ne32.false
    (sym c.if-not-is_digit.ensures) (sym c.if-not-is_digit-2.ensures) (sym c.if-not-is_run_byte-2.ensures)
    (omega (arith, c.from-ones.ensures, c.from.ensures))

pub returns-then-not-is_run_byte-3-clause-ahead : goal.returns-then-not-is_run_byte-3-clause-ahead
returns-then-not-is_run_byte-3-clause-ahead c some place =
    three_digits_ahead place ((c.from-ones.result * 10 + c.from.result) * 10 + c.from-2.result) c.args.rest.now (omega arith)
    c.if-rest-ne32.false (sym c.if-not-is_digit.ensures) (sym c.if-not-is_digit-2.ensures) (sym c.if-not-is_digit-3.ensures)
    (sym c.if-not-is_run_byte-3.ensures) (omega (arith, c.from-ones.ensures, c.from.ensures, c.from-2.ensures))

pub returns-clause-ahead : goal.returns-clause-ahead
returns-clause-ahead c some place =
    four_digits_ahead place (((c.from-ones.result * 10 + c.from.result) * 10 + c.from-2.result) * 10 + c.from-3.result) c.args.rest.now
    (omega arith) c.if-rest-ne32.false (sym c.if-not-is_digit.ensures) (sym c.if-not-is_digit-2.ensures) (sym c.if-not-is_digit-3.ensures)
    (sym c.if-not-is_digit-4.ensures) (sym c.if-is_run_byte.ensures)
    (omega (arith, c.from-ones.ensures, c.from.ensures, c.from-2.ensures, c.from-3.ensures))
