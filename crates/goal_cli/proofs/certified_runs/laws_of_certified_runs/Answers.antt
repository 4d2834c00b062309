-- Each law is a lemma.
use Rattle.goal_cli.proofs.CertifiedRuns.{runs_are_right, generated_certified}
use Rattle.goal_cli.proofs.certified_runs.laws_of_certified_runs.Goals as goal

pub returns-clause-certified_runs_are_right : goal.returns-clause-certified_runs_are_right
returns-clause-certified_runs_are_right c = λ what plans costs history certified complete. runs_are_right what plans costs history certified complete

pub returns-clause-generated_are_certified : goal.returns-clause-generated_are_certified
returns-clause-generated_are_certified c = λ what ranks bytes input output e small is. generated_certified what ranks bytes input output e small is
