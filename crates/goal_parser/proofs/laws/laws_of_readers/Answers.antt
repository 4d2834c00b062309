use Rattle.goal_parser.proofs.PassLaws.{passes_so_far}
use Rattle.goal_parser.proofs.laws.laws_of_readers.Goals as goal

pub returns : goal.returns
returns c = record { passes_so_far = passes_so_far }
