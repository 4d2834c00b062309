use Rattle.goal_cli.proofs.AnswerLemmas.{answer_of_status_has_cause, refused_as, written_whole, run_printed, run_printed_on}
use Rattle.goal_cli.proofs.command.goal.Goals as goal

pub returns-clause-answered : goal.returns-clause-answered
returns-clause-answered g c =
    let b = answer_of_status_has_cause _ _ _ _ _ _ _ c.carry_out-answer.ensures.cause c.tell.ensures.answered in
    record { answer = b.0; cause = b.1; told = b.2 }

pub returns-clause-refused_exact : goal.returns-clause-refused_exact
returns-clause-refused_exact g c =
    let b = answer_of_status_has_cause _ _ _ _ _ _ _ c.carry_out-answer.ensures.cause c.tell.ensures.answered in
    refused_as _ _ _ _ _ b.0 _ b.1 b.2

pub returns-clause-complete : goal.returns-clause-complete
returns-clause-complete g c =
    let b = answer_of_status_has_cause _ _ _ _ _ _ _ c.carry_out-answer.ensures.cause c.tell.ensures.answered in
    written_whole _ _ _ _ _ b.0 _ b.1 b.2

pub returns-clause-headline : goal.returns-clause-headline
returns-clause-headline g c =
    let b = answer_of_status_has_cause _ _ _ _ _ _ _ c.carry_out-answer.ensures.cause c.tell.ensures.answered in
    run_printed _ _ _ _ _ b.0 _ b.1 b.2

pub returns-clause-headline_on_a_machine : goal.returns-clause-headline_on_a_machine
returns-clause-headline_on_a_machine g c =
    let b = answer_of_status_has_cause _ _ _ _ _ _ _ c.carry_out-answer.ensures.cause c.tell.ensures.answered in
    run_printed_on _ _ _ _ _ b.0 _ b.1 b.2
