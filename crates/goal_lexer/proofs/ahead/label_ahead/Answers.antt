use Rattle.std.proofs.Common.{sym, arith, get_or}
use Rattle.goal_lexer.proofs.FoundAheadLaws.{behind, label_found, run_byte_above_9_begins_word}
use Rattle.goal_lexer.proofs.ahead.label_ahead.Goals as goal

pub returns-clause-ahead : goal.returns-clause-ahead
returns-clause-ahead c some place =
    let run = c.count_run-count in
    label_found place c.args.blanks run.result c.args.rest.now c.requires.blanks (omega arith) (omega arith) (omega arith)
    (run_byte_above_9_begins_word (get_or (behind c.args.blanks c.args.rest.now) 0 0) (run.ensures.each 0 (omega arith)) (omega arith)) run.ensures.each (run.ensures.ends (omega arith)) (sym c.if-ends_reserved.ensures)
