use Rattle.goal_parser.proofs.AheadLaws.{goes_ahead_twice, fault_after_going_ahead}
use Rattle.goal_parser.proofs.reader.Reader.take_message.Goals as goal

pub returns-in-Ok-take_path-clause-ahead : goal.returns-in-Ok-take_path-clause-ahead
returns-in-Ok-take_path-clause-ahead c =
    goes_ahead_twice c.args.self.now c.take_amount_in.new.self c.take_path.new.self c.args.rest.now c.in-Ok.taken c.in-Ok-take_path.more.count c.in-Ok.ensures.ahead c.in-Ok-take_path.ensures.ahead

pub returns-in-Err-take_path-clause-fault : goal.returns-in-Err-take_path-clause-fault
returns-in-Err-take_path-clause-fault c =
    fault_after_going_ahead c.args.self.now c.take_amount_in.new.self c.args.rest.now c.in-Ok.taken c.in-Err-take_path.fault c.in-Ok.ensures.ahead c.in-Err-take_path.ensures.fault
