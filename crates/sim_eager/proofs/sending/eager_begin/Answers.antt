use Rattle.sim_eager.proofs.sending.eager_begin.Goals as goal

pub eager_begin_message-requires-clause-message : goal.eager_begin_message-requires-clause-message
eager_begin_message-requires-clause-message g c =
    record { tag = c.message-message.result.tag; kind = c.message-message.ensures.kind }
