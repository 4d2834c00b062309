use Rattle.goal_parser.proofs.AheadLaws.{goes_ahead_twice, fault_after_going_ahead}
use Rattle.goal_parser.proofs.reader.Reader.take_ahead.Goals as goal

pub returns-in-Ok-take_phrase-clause-ahead : goal.returns-in-Ok-take_phrase-clause-ahead
returns-in-Ok-take_phrase-clause-ahead c =
    goes_ahead_twice c.args.self.now c.take_subject.new.self c.take_phrase.new.self c.args.rest.now c.in-Ok.taken c.in-Ok-take_phrase.more c.in-Ok.ensures.ahead c.in-Ok-take_phrase.ensures.ahead

pub returns-in-Err-take_phrase-clause-fault : goal.returns-in-Err-take_phrase-clause-fault
returns-in-Err-take_phrase-clause-fault c =
    fault_after_going_ahead c.args.self.now c.take_subject.new.self c.args.rest.now c.in-Ok.taken c.in-Err-take_phrase.fault c.in-Ok.ensures.ahead c.in-Err-take_phrase.ensures.fault
