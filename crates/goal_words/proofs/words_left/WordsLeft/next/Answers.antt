use Rattle.std.proofs.Common.{refl, ◌∙◌}
use Rattle.goal_words.proofs.WordsLeftLemmas.{no_words_left, plain_word_is_first_of_parts}
use Rattle.goal_words.proofs.words_left.WordsLeft.next.Goals as goal

pub returns-in_err-word : goal.returns-in_err-word
returns-in_err-word c =
    let rest = c.in_ok-rest.rest in
    rw (c.from_residual-in_err-word.ensures, c.in_ok-rest.ensures.left, no_words_left rest.taken rest.given rest.words.now c.in_err-word.ensures.cases) refl

pub returns : goal.returns
returns c =
    let rest = c.in_ok-rest.rest in
    let cases = c.in_ok-word.ensures.cases.0 in
    c.in_ok-rest.ensures.left
    ∙ rw (cases, c.as_str.ensures.value)
    (plain_word_is_first_of_parts rest.taken rest.given c.in_ok-word.word.now c.in_ok-word.words.now (rw cases at c.in_ok-rest.ensures.plain))
