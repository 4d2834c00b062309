use Rattle.goal_input.proofs.InputLemmas.{same_schedule}
use Rattle.goal_input.proofs.FaultLemmas.{same_fault, no_fault}
use Rattle.goal_input.proofs.laws.laws_of_inputs.Goals as goal

pub returns-clause-one_schedule : goal.returns-clause-one_schedule
returns-clause-one_schedule c = same_schedule

pub returns-clause-one_fault : goal.returns-clause-one_fault
returns-clause-one_fault c = same_fault

pub returns-clause-not_both : goal.returns-clause-not_both
returns-clause-not_both c = no_fault
