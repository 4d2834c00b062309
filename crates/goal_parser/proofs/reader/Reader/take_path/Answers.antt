use Rattle.goal_parser.proofs.AheadLaws.{goes_ahead_twice, fault_after_going_ahead}
use Rattle.goal_parser.proofs.reader.Reader.take_path.Goals as goal

pub returns-in-Ok-take_settings-clause-ahead : goal.returns-in-Ok-take_settings-clause-ahead
returns-in-Ok-take_settings-clause-ahead c =
    goes_ahead_twice c.args.self.now c.take_target.new.self c.take_settings.new.self c.args.rest.now c.in-Ok.taken.count c.in-Ok-take_settings.more.count c.in-Ok.ensures.ahead c.in-Ok-take_settings.ensures.ahead

pub returns-in-Err-take_settings-clause-fault : goal.returns-in-Err-take_settings-clause-fault
returns-in-Err-take_settings-clause-fault c =
    fault_after_going_ahead c.args.self.now c.take_target.new.self c.args.rest.now c.in-Ok.taken.count c.in-Err-take_settings.fault c.in-Ok.ensures.ahead c.in-Err-take_settings.ensures.fault
