use Rattle.std.proofs.Common.{sym, ◌∙◌}
use Rattle.goal_graph.proofs.ForCallers.{receive_is_op}
use Rattle.goal_certify.proofs.Passes.{count_read, no_other_length_if_equal, lengths_least}
use Rattle.goal_certify.proofs.channels.other_length.Goals as goal

pub index-requires-in-Some : goal.index-requires-in-Some
index-requires-in-Some c = receive_is_op _ _ c.in-Some.ensures.found.is_receive

pub returns-then-sent-received-clause-none : goal.returns-then-sent-received-clause-none
returns-then-sent-received-clause-none c =
    let sent = count_read _ _ _ _ c.requires.counts c.index.ensures.index in
    let received = count_read _ _ _ _ c.requires.counts c.index-in-Some.ensures.index in
    no_other_length_if_equal _ _ _ c.in-Some.ensures.found c.in-Some.ensures.only (sym sent ∙ c.if-sent-received.true ∙ received)

pub returns-else-sent-received-clause-least : goal.returns-else-sent-received-clause-least
returns-else-sent-received-clause-least c =
    let sent = count_read _ _ _ _ c.requires.counts c.index.ensures.index in
    let received = count_read _ _ _ _ c.requires.counts c.index-in-Some.ensures.index in
    lengths_least _ _ _ c.in-Some.ensures.found c.in-Some.ensures.only (λ e. c.if-sent-received.false (sent ∙ e ∙ sym received))

pub returns-in-None-clause-none : goal.returns-in-None-clause-none
returns-in-None-clause-none c recv h = c.in-None.ensures.none recv h.one
