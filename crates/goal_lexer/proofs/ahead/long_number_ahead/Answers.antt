use Rattle.std.proofs.Common.{sym, arith}
use Rattle.goal_lexer.proofs.FoundAheadLaws.{digits_ahead}
use Rattle.goal_lexer.proofs.ahead.long_number_ahead.Goals as goal

pub returns-clause-ahead : goal.returns-clause-ahead
returns-clause-ahead c some place =
    let blanks = c.blanks_ahead-blanks.result in
    let found = c.leading_digits-count in
    digits_ahead place blanks found.result.count found.result.value c.args.rest.now c.blanks_ahead-blanks.ensures (omega arith)
    c.if-end-rest.false (omega (arith, found.ensures.few)) found.ensures.digits (sym c.if-is_run_byte.ensures) found.ensures.value
