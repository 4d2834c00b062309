use Rattle.goal_parser.proofs.AheadLaws.{goes_ahead_twice, fault_after_going_ahead}
use Rattle.goal_parser.proofs.reader.Reader.take_labelled.Goals as goal

pub returns-in-Ok-take_colon-clause-ahead : goal.returns-in-Ok-take_colon-clause-ahead
returns-in-Ok-take_colon-clause-ahead c =
    goes_ahead_twice c.args.self.now c.take_label.new.self c.take_colon.new.self c.args.rest.now c.in-Ok.taken c.in-Ok-take_colon.more c.in-Ok.ensures.ahead c.in-Ok-take_colon.ensures.ahead

pub returns-in-Err-take_colon-clause-fault : goal.returns-in-Err-take_colon-clause-fault
returns-in-Err-take_colon-clause-fault c =
    fault_after_going_ahead c.args.self.now c.take_label.new.self c.args.rest.now c.in-Ok.taken c.in-Err-take_colon.fault c.in-Ok.ensures.ahead c.in-Err-take_colon.ensures.fault
