use Rattle.std.proofs.Common.{arith}
use Rattle.goal_parser.proofs.reader.Reader.take_colon.Goals as goal

pub overflow_add-token : goal.overflow_add-token
overflow_add-token c = omega (arith, c.requires.ready.place, (c.begins_with_colon.ensures c.if-not-begins_with_colon.false c.args.self.now.place).0)

pub go_on-requires-clause-ahead : goal.go_on-requires-clause-ahead
go_on-requires-clause-ahead c = (_, c.begins_with_colon.ensures c.if-not-begins_with_colon.false c.args.self.now.place)

pub returns-clause-ahead : goal.returns-clause-ahead
returns-clause-ahead c =
    c.go_on.ensures.ahead c.args.self.now.parser _ (c.begins_with_colon.ensures c.if-not-begins_with_colon.false c.args.self.now.place)
    c.take_colon-taken.ensures.ok

pub returns-clause-fault : goal.returns-clause-fault
returns-clause-fault c =
    c.go_on.ensures.fault c.args.self.now.parser _ (c.begins_with_colon.ensures c.if-not-begins_with_colon.false c.args.self.now.place)
    c.take_colon-taken.ensures.fault
