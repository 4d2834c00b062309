use Rattle.std.proofs.Common.{◌<◌, length, sym, arith}
use Rattle.goal_lexer.proofs.WholeLaws.{whole_letters}
use Rattle.goal_lexer.proofs.whole.whole_word.Goals as goal

pub returns : goal.returns
returns c =
    let count = c.count_run-count.result in
    let said = c.count_run-count.ensures in
    let inside : count < length c.args.piece.now = omega arith in
    whole_letters c.args.place count c.args.piece.now c.word_kind.new.kind (omega arith) inside (omega arith)
    (sym c.if-not-begins_word.ensures) said.each (said.ends inside) c.word_kind.ensures
