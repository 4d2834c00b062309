use Rattle.goal_parser.proofs.AheadLaws.{goes_ahead_twice, fault_after_going_ahead}
use Rattle.goal_parser.proofs.reader.Reader.take_note.Goals as goal

pub returns-in-Ok-take_slots-clause-ahead : goal.returns-in-Ok-take_slots-clause-ahead
returns-in-Ok-take_slots-clause-ahead c =
    goes_ahead_twice c.args.self.now c.take_verb.new.self c.take_slots.new.self c.args.rest.now c.in-Ok.taken c.in-Ok-take_slots.more.count c.in-Ok.ensures.ahead c.in-Ok-take_slots.ensures.ahead

pub returns-in-Err-take_slots-clause-fault : goal.returns-in-Err-take_slots-clause-fault
returns-in-Err-take_slots-clause-fault c =
    fault_after_going_ahead c.args.self.now c.take_verb.new.self c.args.rest.now c.in-Ok.taken c.in-Err-take_slots.fault c.in-Ok.ensures.ahead c.in-Err-take_slots.ensures.fault
