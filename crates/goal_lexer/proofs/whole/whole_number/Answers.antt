use Rattle.std.proofs.Common.{◌+◌, ◌<◌, length, sym, arith}
use Rattle.goal_lexer.proofs.WholeLaws.{whole_digits, whole_size}
use Rattle.goal_lexer.proofs.whole.whole_number.Goals as goal

pub returns-then-not-is_run_byte : goal.returns-then-not-is_run_byte
returns-then-not-is_run_byte c =
    let count = c.leading_digits-count.result.count in
    let said = c.leading_digits-count.ensures in
    let inside : count < length c.args.piece.now = omega arith in
    whole_digits c.args.place count c.leading_digits-count.result.value c.args.piece.now (omega arith) inside (omega arith)
    said.digits (sym c.if-not-is_run_byte.ensures) said.value

pub returns : goal.returns
returns c =
    let count = c.leading_digits-count.result.count in
    let said = c.leading_digits-count.ensures in
    let inside : count + 1 < length c.args.piece.now = omega arith in
    whole_size c.args.place count c.leading_digits-count.result.value c.args.piece.now (omega arith) inside (omega arith)
    said.digits c.if-piece-count-ne98.false (sym c.if-is_run_byte.ensures) said.value
