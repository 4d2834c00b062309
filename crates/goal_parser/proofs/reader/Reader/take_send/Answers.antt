use Rattle.goal_parser.proofs.AheadLaws.{goes_ahead_twice, fault_after_going_ahead}
use Rattle.goal_parser.proofs.reader.Reader.take_send.Goals as goal

pub returns-in-Ok-take_message-clause-ahead : goal.returns-in-Ok-take_message-clause-ahead
returns-in-Ok-take_message-clause-ahead c =
    goes_ahead_twice c.args.self.now c.take_action.new.self c.take_message.new.self c.args.rest.now c.in-Ok.taken c.in-Ok-take_message.more.count c.in-Ok.ensures.ahead c.in-Ok-take_message.ensures.ahead

pub returns-in-Err-take_message-clause-fault : goal.returns-in-Err-take_message-clause-fault
returns-in-Err-take_message-clause-fault c =
    fault_after_going_ahead c.args.self.now c.take_action.new.self c.args.rest.now c.in-Ok.taken c.in-Err-take_message.fault c.in-Ok.ensures.ahead c.in-Err-take_message.ensures.fault
