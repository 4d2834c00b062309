use Rattle.goal_lexer.proofs.TakenLaws.{stands_is_taken}
use Rattle.goal_lexer.proofs.TakenBackLaws.{taken_stands, handed_are_tokens}
use Rattle.goal_lexer.proofs.CutOffLaws.{fault_at_end_is_cut_off}
use Rattle.goal_lexer.proofs.laws.laws_of_lexers.Goals as goal

pub returns : goal.returns
returns c = record { taken = stands_is_taken; stands = taken_stands; handed = handed_are_tokens; cut_off = fault_at_end_is_cut_off }
