use Rattle.sim_eager.proofs.Messages.{message_is_send, message_fits}
use Rattle.sim_eager.proofs.sending.eager_begin_message.Goals as goal

pub transfer-requires-clause-sends : goal.transfer-requires-clause-sends
transfer-requires-clause-sends g c =
    rw c.requires.same_schedule (message_is_send _ _ _ _ c.requires.message)

pub transfer-requires-clause-size : goal.transfer-requires-clause-size
transfer-requires-clause-size g c =
    message_fits _ _ _ _ c.requires.message c.laws_of_schedules.ensures.values_are_within c.known.ensures.accepted
