use Rattle.sim_rendezvous.proofs.handover.data.Goals as goal

pub data_message-requires-clause-message : goal.data_message-requires-clause-message
data_message-requires-clause-message g c =
    record { tag = c.message-message.result.tag; kind = c.message-message.ensures.kind }
