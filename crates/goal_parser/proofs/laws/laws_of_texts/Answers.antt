use Rattle.goal_parser.proofs.LimitLaws.{plans_within_limits}
use Rattle.goal_parser.proofs.GrammarLaws.{plans_are_said}
use Rattle.goal_parser.proofs.ReadBack.{read_as_written}
use Rattle.goal_parser.proofs.OneReading.{text_tokens_injective}
use Rattle.goal_parser.proofs.laws.laws_of_texts.Goals as goal

pub returns : goal.returns
returns c = record { keep_limits = plans_within_limits; say_plans = plans_are_said; read_as_written = read_as_written; one_reading = text_tokens_injective }
