use Rattle.std.proofs.Common.{arith}
use Rattle.goal_parser.proofs.reader.Reader.take_duration.Goals as goal

pub go_on-requires-clause-ahead : goal.go_on-requires-clause-ahead
go_on-requires-clause-ahead c = (_, c.number_ahead-number.ensures.ahead (omega arith) c.args.self.now.place)

pub returns-clause-ahead : goal.returns-clause-ahead
returns-clause-ahead c =
    c.go_on.ensures.ahead c.args.self.now.parser _ (c.number_ahead-number.ensures.ahead (omega arith) c.args.self.now.place)
    c.take_number-taken.ensures.ok

pub returns-clause-fault : goal.returns-clause-fault
returns-clause-fault c =
    c.go_on.ensures.fault c.args.self.now.parser _ (c.number_ahead-number.ensures.ahead (omega arith) c.args.self.now.place)
    c.take_number-taken.ensures.fault
