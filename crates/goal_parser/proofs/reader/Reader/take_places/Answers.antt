use Rattle.goal_parser.proofs.AheadLaws.{goes_ahead_twice, fault_after_going_ahead}
use Rattle.goal_parser.proofs.reader.Reader.take_places.Goals as goal

pub returns-in-Ok-take_setting-clause-ahead : goal.returns-in-Ok-take_setting-clause-ahead
returns-in-Ok-take_setting-clause-ahead c =
    goes_ahead_twice c.args.self.now c.take_setting.new.self c.take_setting-in-Ok.new.self c.args.rest.now c.in-Ok.taken.count c.in-Ok-take_setting.more.count c.in-Ok.ensures.ahead c.in-Ok-take_setting.ensures.ahead

pub returns-in-Err-take_setting-clause-fault : goal.returns-in-Err-take_setting-clause-fault
returns-in-Err-take_setting-clause-fault c =
    fault_after_going_ahead c.args.self.now c.take_setting.new.self c.args.rest.now c.in-Ok.taken.count c.in-Err-take_setting.fault c.in-Ok.ensures.ahead c.in-Err-take_setting.ensures.fault
