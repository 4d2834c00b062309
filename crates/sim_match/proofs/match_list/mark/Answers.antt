use Rattle.sim_match.proofs.Marks.{operation_marked_after_set}
use Rattle.sim_match.proofs.match_list.mark.Goals as goal

pub returns-clause-marked : goal.returns-clause-marked
returns-clause-marked c = operation_marked_after_set _ _ _ c.args.id c.index.ensures.index c.requires.long
