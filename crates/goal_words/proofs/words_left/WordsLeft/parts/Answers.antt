use Rattle.goal_words.specs.Reading.{left}
use Rattle.goal_words.proofs.WordsLeftLemmas.{four_plain_words_are_too_many}
use Rattle.goal_words.proofs.words_left.WordsLeft.parts.Goals as goal

pub returns-in_err-given : goal.returns-in_err-given
returns-in_err-given c =
    rw (c.from_residual-in_err-given.ensures, c.in_ok-first.ensures, c.in_ok-second.ensures, c.in_ok-third.ensures)
    (four_plain_words_are_too_many c.in_ok-first.first.now c.in_ok-second.second.now c.in_ok-third.third.now (left c.in_ok-third.rest) c.in_err-given.ensures)
