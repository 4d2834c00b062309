use Rattle.std.proofs.Common.{◌≡◌, length}
use Rattle.goal_words.specs.Reading.{left}
use Rattle.goal_words.proofs.words_left.WordsLeft.past_options.Given as goal

abbrev pub invariant-options : goal.invariant-options
invariant-options l = left l.self ≡ left l.rest

abbrev pub decreases-options : goal.decreases-options
decreases-options l = length l.rest.words.now
