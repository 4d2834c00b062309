use Rattle.sim_eager.proofs.ForCallers.{message_is_send}
use Rattle.sim_rendezvous.proofs.requests.request_to.Goals as goal

pub transfer-requires-clause-sends : goal.transfer-requires-clause-sends
transfer-requires-clause-sends g c =
    rw c.requires.same_schedule (message_is_send _ _ _ _ c.requires.goes_to.1)
