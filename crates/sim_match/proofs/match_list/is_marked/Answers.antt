use Rattle.std.proofs.Common.{false, sym}
use Rattle.sim_match.proofs.Marks.{operation_mark_read}
use Rattle.sim_match.proofs.match_list.is_marked.Goals as goal

pub returns-clause-tells : goal.returns-clause-tells
returns-clause-tells c = sym (operation_mark_read _ _ _ c.args.id c.index.ensures.index c.requires.long false)
