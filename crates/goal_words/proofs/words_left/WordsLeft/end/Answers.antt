use Rattle.std.proofs.Common.{length, sym, ◌∙◌, arith}
use Rattle.std.proofs.lemmas.Bool.{eqb-true, eqb-false}
use Rattle.goal_words.proofs.WordsLeftLemmas.{no_words_left, parts_begun_by_plain_word_not_empty}
use Rattle.goal_words.proofs.words_left.WordsLeft.end.Goals as goal

pub returns-then-is_empty : goal.returns-then-is_empty
returns-then-is_empty c =
    let rest = c.in_ok-rest.rest in
    c.in_ok-rest.ensures.left
    ∙ no_words_left rest.taken rest.given rest.words.now (eqb-true (length rest.words.now) 0 (sym c.is_empty.ensures ∙ c.if-is_empty.true))

pub returns-else-is_empty : goal.returns-else-is_empty
returns-else-is_empty c =
    let rest = c.in_ok-rest.rest in
    let none = eqb-false (length rest.words.now) 0 (sym c.is_empty.ensures ∙ c.if-is_empty.false) in
    rw c.in_ok-rest.ensures.left (parts_begun_by_plain_word_not_empty rest.taken rest.given rest.words.now c.in_ok-rest.ensures.plain (omega (arith, none)))
