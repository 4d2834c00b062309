-- Each law is a lemma.
use Rattle.goal_blocks.proofs.Fitting.{fitting_accepted}
use Rattle.goal_blocks.proofs.MadeAccepted.{made_accepted}
use Rattle.goal_blocks.proofs.BcastPaired.{bcast_paired}
use Rattle.goal_blocks.proofs.MadePaired.{allgather_paired, scan_paired}
use Rattle.goal_blocks.proofs.MadeCertified.{made_certified, made_right_at_any_weight, certified_only_by_proof}
use Rattle.goal_blocks.proofs.generated.laws_of_made_schedules.Goals as goal

pub returns-clause-fitting_is_accepted : goal.returns-clause-fitting_is_accepted
returns-clause-fitting_is_accepted c = λ ranks count e fit. fitting_accepted ranks count e fit

pub returns-clause-made_is_accepted : goal.returns-clause-made_is_accepted
returns-clause-made_is_accepted c = λ what ranks bytes possible small. made_accepted what ranks bytes possible small

pub returns-clause-bcast_is_paired : goal.returns-clause-bcast_is_paired
returns-clause-bcast_is_paired c = λ root ranks bytes possible. bcast_paired ranks root bytes possible.root possible.few_ranks

pub returns-clause-allgather_is_paired : goal.returns-clause-allgather_is_paired
returns-clause-allgather_is_paired c = λ ranks bytes. allgather_paired ranks bytes

pub returns-clause-scan_is_paired : goal.returns-clause-scan_is_paired
returns-clause-scan_is_paired c = λ ranks bytes. scan_paired ranks bytes

pub returns-clause-made_is_certified : goal.returns-clause-made_is_certified
returns-clause-made_is_certified c = λ what ranks bytes possible small proved. made_certified what ranks bytes possible small proved

pub returns-clause-made_is_right : goal.returns-clause-made_is_right
returns-clause-made_is_right c = λ what ranks bytes possible small. made_right_at_any_weight what ranks bytes possible small

pub returns-clause-only_these_are_certified : goal.returns-clause-only_these_are_certified
returns-clause-only_these_are_certified c = λ what ranks bytes possible certified. certified_only_by_proof what ranks bytes possible certified
