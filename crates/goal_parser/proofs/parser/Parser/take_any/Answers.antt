use Rattle.goal_parser.proofs.KindLaws.{takes_any, within_any}
use Rattle.goal_parser.proofs.parser.Parser.take_any.Goals as goal

pub take-requires : goal.take-requires
take-requires c = record { within = within_any c.args.self.now.state c.args.self.now.draft.option c.args.token.now.kind c.requires.any }

pub returns-clause-ok : goal.returns-clause-ok
returns-clause-ok c = takes_any c.args.self.now c.args.token.now c.in_ok-next.next c.take.new.self c.in_ok-next.ensures.ok c.requires.any c.take.ensures.taken
