use Rattle.sim_rendezvous.proofs.requests.clear.Goals as goal

pub clear_to-requires-clause-goes_to : goal.clear_to-requires-clause-goes_to
clear_to-requires-clause-goes_to g c =
    (c.message-message.result.bytes, record { tag = c.message-message.result.tag; kind = c.message-message.ensures.kind })
