use Rattle.goal_certify.proofs.EndLemmas.{end_read, receive_itself, receive_no_end}
use Rattle.goal_certify.proofs.Passes.{found_entry_is_of_channel, found_receive_is_the_only_one, no_receive_if_none_found}
use Rattle.goal_certify.proofs.channels.receive_of.Goals as goal

pub returns-in-Some-clause-found : goal.returns-in-Some-clause-found
returns-in-Some-clause-found c =
    found_entry_is_of_channel _ _ c.requires.ends _ _ _ _ (end_read _ _ _ _ c.op.ensures.op c.in-Some.ensures) c.if-end.true c.other.ensures c.first.ensures.found

pub returns-in-Some-clause-only : goal.returns-in-Some-clause-only
returns-in-Some-clause-only c =
    found_receive_is_the_only_one _ _ c.requires.ends _ _ _ _ c.requires.no_double (end_read _ _ _ _ c.op.ensures.op c.in-Some.ensures) c.if-end.true c.other.ensures c.first.ensures.found

pub returns-in-Some-clause-none : goal.returns-in-Some-clause-none
returns-in-Some-clause-none c =
    no_receive_if_none_found _ _ c.requires.ends _ _ _ _ (end_read _ _ _ _ c.op.ensures.op c.in-Some.ensures) c.other.ensures c.first.ensures.none

pub returns-in_default-clause-none : goal.returns-in_default-clause-none
returns-in_default-clause-none c =
    receive_itself _ _ c.requires.ends _ _ (end_read _ _ _ _ c.op.ensures.op c.in-Some.ensures) c.if-end.false

pub returns-in_default-2-clause-none : goal.returns-in_default-2-clause-none
returns-in_default-2-clause-none c =
    receive_no_end _ _ c.requires.ends _ (end_read _ _ _ _ c.op.ensures.op c.in_default.ensures)
