-- Each law is a lemma.
use Rattle.sim_waits.proofs.OneReport.{report_unique}
use Rattle.sim_waits.proofs.ExactWait.{ready_before_last_action, wait_is_difference}
use Rattle.sim_waits.proofs.laws.laws_of_waits.Goals as goal

pub returns-clause-one_report : goal.returns-clause-one_report
returns-clause-one_report c = report_unique

pub returns-clause-ready_is_not_later : goal.returns-clause-ready_is_not_later
returns-clause-ready_is_not_later c = λ plans costs. ready_before_last_action plans costs c.laws_of_runs.ensures.newest_is_last

pub returns-clause-wait_is_exact : goal.returns-clause-wait_is_exact
returns-clause-wait_is_exact c = λ plans costs. wait_is_difference plans costs c.laws_of_runs.ensures.newest_is_last
