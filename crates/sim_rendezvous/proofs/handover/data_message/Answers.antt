use Rattle.sim_eager.proofs.ForCallers.{message_is_send, message_fits}
use Rattle.sim_rendezvous.proofs.handover.data_message.Goals as goal

pub transfer-begun-requires-clause-sends : goal.transfer-begun-requires-clause-sends
transfer-begun-requires-clause-sends g c =
    rw c.requires.same_schedule (message_is_send _ _ _ _ c.requires.message)

pub transfer-begun-requires-clause-size : goal.transfer-begun-requires-clause-size
transfer-begun-requires-clause-size g c =
    message_fits _ _ _ _ c.requires.message c.laws_of_schedules.ensures.values_are_within c.known.ensures.accepted
