use Rattle.std.proofs.Common.{arith, ◌+◌}
use Rattle.goal_parser.proofs.reader.Reader.take_label.Goals as goal

pub go_on-requires-clause-ahead : goal.go_on-requires-clause-ahead
go_on-requires-clause-ahead c = (_, c.label_ahead-end.ensures.ahead (omega arith) c.args.self.now.place)

pub returns-clause-ahead : goal.returns-clause-ahead
returns-clause-ahead c =
    let place = c.args.self.now.place in
    c.go_on.ensures.ahead c.args.self.now.parser _ (c.label_ahead-end.ensures.ahead (omega arith) place)
    (c.take_label-taken.ensures.ok (place + c.label_ahead-end.result))

pub returns-clause-fault : goal.returns-clause-fault
returns-clause-fault c =
    let place = c.args.self.now.place in
    c.go_on.ensures.fault c.args.self.now.parser _ (c.label_ahead-end.ensures.ahead (omega arith) place)
    (c.take_label-taken.ensures.fault (place + c.label_ahead-end.result))
