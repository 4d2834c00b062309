use Rattle.sim_rendezvous.proofs.requests.request.Goals as goal

pub request_to-requires-clause-goes_to : goal.request_to-requires-clause-goes_to
request_to-requires-clause-goes_to g c =
    (c.message-message.result.bytes, record { tag = c.message-message.result.tag; kind = c.message-message.ensures.kind })
