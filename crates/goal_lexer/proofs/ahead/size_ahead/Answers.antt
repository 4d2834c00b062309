use Rattle.std.proofs.Common.{sym, arith}
use Rattle.goal_lexer.proofs.FoundAheadLaws.{one_digit_size}
use Rattle.goal_lexer.proofs.ahead.size_ahead.Goals as goal

pub returns-then-not-is_run_byte-clause-ahead : goal.returns-then-not-is_run_byte-clause-ahead
returns-then-not-is_run_byte-clause-ahead c some place =
    one_digit_size place c.from-value.result c.args.rest.now (omega arith) c.if-rest-eq32.true (sym c.if-is_digit.ensures)
    c.if-rest-eq98.true (sym c.if-not-is_run_byte.ensures) (omega (arith, c.from-value.ensures))
