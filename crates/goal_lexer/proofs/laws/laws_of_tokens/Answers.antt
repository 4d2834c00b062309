use Rattle.goal_lexer.proofs.ReadingLaws.{reading_of}
use Rattle.goal_lexer.proofs.OnlyLaws.{cut_is_only_reading, cut_unique}
use Rattle.goal_lexer.proofs.GoesOnLaws.{first_tokens, text_goes_on}
use Rattle.goal_lexer.proofs.laws.laws_of_tokens.Goals as goal

pub returns : goal.returns
returns c = record { reading = reading_of; only = cut_is_only_reading; one = cut_unique; first = first_tokens; goes_on = text_goes_on }
