-- Each law is a lemma.
use Rattle.std.proofs.Common.{length, refl}
use Rattle.sim_placed.proofs.ApartRuns.{same_there}
use Rattle.sim_placed.proofs.PlacedTimes.{same_times, runs_alike}
use Rattle.sim_placed.proofs.laws_of_placed_runs.Goals as goal

pub returns-clause-times_are_alike : goal.returns-clause-times_are_alike
returns-clause-times_are_alike c = λ to back plans other costs there h perm placed alike. same_times (length plans) to back perm plans other placed costs there alike h

pub returns-clause-runs_are_alike : goal.returns-clause-runs_are_alike
returns-clause-runs_are_alike c = λ to back plans other costs there h perm placed alike. runs_alike (length plans) to back perm plans other placed costs there alike h

pub returns-clause-log_gops_is_alike : goal.returns-clause-log_gops_is_alike
returns-clause-log_gops_is_alike c = λ to p. record {
  over = λ from target bytes. refl;
  gap = λ from target bytes. refl;
  flight = λ from target bytes. refl;
  latency = λ from target. refl;
  eager = λ from target bytes. refl;
}

pub returns-clause-apart_runs_are_alike : goal.returns-clause-apart_runs_are_alike
returns-clause-apart_runs_are_alike c = λ to back plans other costs there h g perm placed alike apart takes run run_there x. same_there to back plans other costs there perm placed alike c.laws_of_runs.ensures.newest_is_last apart takes h g run run_there x
