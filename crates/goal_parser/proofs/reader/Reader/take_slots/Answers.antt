use Rattle.goal_parser.proofs.AheadLaws.{goes_ahead_twice, fault_after_going_ahead}
use Rattle.goal_parser.proofs.reader.Reader.take_slots.Goals as goal

pub returns-in-Ok-take_target-clause-ahead : goal.returns-in-Ok-take_target-clause-ahead
returns-in-Ok-take_target-clause-ahead c =
    goes_ahead_twice c.args.self.now c.take_number_in.new.self c.take_target.new.self c.args.rest.now c.in-Ok.taken c.in-Ok-take_target.more.count c.in-Ok.ensures.ahead c.in-Ok-take_target.ensures.ahead

pub returns-in-Err-take_target-clause-fault : goal.returns-in-Err-take_target-clause-fault
returns-in-Err-take_target-clause-fault c =
    fault_after_going_ahead c.args.self.now c.take_number_in.new.self c.args.rest.now c.in-Ok.taken c.in-Err-take_target.fault c.in-Ok.ensures.ahead c.in-Err-take_target.ensures.fault
