use Rattle.std.proofs.Common.{◌≡◌, sym, ap, false, length, get_or}
use Rattle.goal_lexer.specs.Bytes.{is_run_byte}
use Rattle.goal_lexer.proofs.FoundAheadLaws.{spaced_found}
use Rattle.goal_lexer.proofs.ahead.spaced_word_ahead.Goals as goal
use Rattle.goal_lexer.proofs.ahead.spaced_word_ahead.Goals.{else-rest-end-ne32-via-then-rest-end-ne32+else-is_run_byte, else-rest-end-ne32-via-else-rest-end-ne32}

pub returns-clause-ahead : goal.returns-clause-ahead
returns-clause-ahead c some place =
    let rest = c.args.rest.now in
    let spaced = c.args.spaced.now in
    let ends : is_run_byte (get_or rest (length spaced) 0) ≡ false = elim c.else-rest-end-ne32.branch [
      | else-rest-end-ne32-via-then-rest-end-ne32+else-is_run_byte w ↦ sym w.if-is_run_byte.ensures
      | else-rest-end-ne32-via-else-rest-end-ne32 w ↦ ap is_run_byte w.if-rest-end-ne32.false
    ] in
    spaced_found place rest spaced c.requires.space c.requires.word c.requires.short c.if-end-rest.false
    (c.begins_with.ensures c.if-not-begins_with.false) ends
