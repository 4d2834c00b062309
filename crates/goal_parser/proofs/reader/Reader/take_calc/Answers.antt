use Rattle.goal_parser.proofs.AheadLaws.{goes_ahead_twice, fault_after_going_ahead}
use Rattle.goal_parser.proofs.reader.Reader.take_calc.Goals as goal

pub returns-in-Ok-take_time-clause-ahead : goal.returns-in-Ok-take_time-clause-ahead
returns-in-Ok-take_time-clause-ahead c =
    goes_ahead_twice c.args.self.now c.take_action.new.self c.take_time.new.self c.args.rest.now c.in-Ok.taken c.in-Ok-take_time.more.count c.in-Ok.ensures.ahead c.in-Ok-take_time.ensures.ahead

pub returns-in-Err-take_time-clause-fault : goal.returns-in-Err-take_time-clause-fault
returns-in-Err-take_time-clause-fault c =
    fault_after_going_ahead c.args.self.now c.take_action.new.self c.args.rest.now c.in-Ok.taken c.in-Err-take_time.fault c.in-Ok.ensures.ahead c.in-Err-take_time.ensures.fault
