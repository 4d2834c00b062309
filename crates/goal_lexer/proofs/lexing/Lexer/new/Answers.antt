use Rattle.std.proofs.Common.{refl}
use Rattle.goal_lexer.specs.Scan.{scan}
use Rattle.goal_lexer.proofs.lexing.Lexer.new.Goals as goal

pub returns-clause-stands : goal.returns-clause-stands
unfolding scan
returns-clause-stands c = record { place = refl; open_there = refl; run_there = tt; sound = tt }

pub returns-clause-handed : goal.returns-clause-handed
unfolding scan
returns-clause-handed c = refl
