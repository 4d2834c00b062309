use Rattle.std.proofs.Common.{◌≡◌, ◌∙◌, sym, ap, take, drop, length}
use Rattle.std.proofs.lemmas.List.{take_rest}
use Rattle.goal_lexer.proofs.FoundAheadLaws.{word_found}
use Rattle.goal_lexer.proofs.ahead.word_ahead.Goals as goal

pub returns-clause-ahead : goal.returns-clause-ahead
returns-clause-ahead c some place =
    let rest = c.args.rest.now in
    let blanks = c.args.blanks in
    let word = c.args.word.now in
    let same : take (length word) (drop blanks rest) ≡ word =
    ap (take (length word)) (sym (take_rest rest blanks)) ∙ c.begins_with.ensures c.if-not-begins_with.false in
    word_found place blanks rest word c.requires.blanks c.requires.word c.requires.short c.if-end-rest.false same (sym c.if-is_run_byte.ensures)
