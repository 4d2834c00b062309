-- Each law is a lemma.
use Rattle.goal_blocks.proofs.HeldFew.{values_stay_single, held_stays_few}
use Rattle.goal_blocks.proofs.laws.laws_of_held_contributions.Goals as goal

pub returns-clause-values_stay_single : goal.returns-clause-values_stay_single
returns-clause-values_stay_single c = λ plans first eager h nothing single. values_stay_single plans first eager h nothing single

pub returns-clause-held_stays_few : goal.returns-clause-held_stays_few
returns-clause-held_stays_few c = λ plans first eager h nothing single. held_stays_few plans first eager h nothing single
