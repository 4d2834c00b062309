use Rattle.std.proofs.Common.{sym, ◌∙◌}
use Rattle.goal_parser.proofs.KindLaws.{refuses_entry}
use Rattle.goal_parser.proofs.parser.Parser.next_state.Goals as goal

pub returns-in-None-clause-fault : goal.returns-in-None-clause-fault
returns-in-None-clause-fault c = refuses_entry c.args.self.now c.args.token.now (sym c.entry.ensures ∙ c.in-None.is)
