use Rattle.sim_eager.proofs.receiving.serve.Goals as goal

pub serve_message-requires-clause-message : goal.serve_message-requires-clause-message
serve_message-requires-clause-message g c =
    record { tag = c.message-message.result.tag; kind = c.message-message.ensures.kind }
