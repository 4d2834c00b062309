use Rattle.goal_parser.proofs.KindLaws.{takes_plain}
use Rattle.goal_parser.proofs.parser.Parser.take_plain.Goals as goal

pub returns-clause-ok : goal.returns-clause-ok
returns-clause-ok c = takes_plain c.args.self.now c.args.token.now c.in_ok-next.next c.in_ok-next.ensures.ok c.requires.plain
