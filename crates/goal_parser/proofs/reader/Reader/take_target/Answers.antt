use Rattle.goal_parser.proofs.AheadLaws.{goes_ahead_twice, fault_after_going_ahead}
use Rattle.goal_parser.proofs.reader.Reader.take_target.Goals as goal

pub returns-in-Ok-take_number_in-clause-ahead : goal.returns-in-Ok-take_number_in-clause-ahead
returns-in-Ok-take_number_in-clause-ahead c =
    goes_ahead_twice c.args.self.now c.take_plain.new.self c.take_number_in.new.self c.args.rest.now c.in-Ok.taken c.in-Ok-take_number_in.more c.in-Ok.ensures.ahead c.in-Ok-take_number_in.ensures.ahead

pub returns-in-Err-take_number_in-clause-fault : goal.returns-in-Err-take_number_in-clause-fault
returns-in-Err-take_number_in-clause-fault c =
    fault_after_going_ahead c.args.self.now c.take_plain.new.self c.args.rest.now c.in-Ok.taken c.in-Err-take_number_in.fault c.in-Ok.ensures.ahead c.in-Err-take_number_in.ensures.fault
