-- Each law is a lemma.
use Rattle.goal_blocks.proofs.Faults.{excludes}
use Rattle.goal_blocks.proofs.NoFault.{faultless}
use Rattle.goal_blocks.proofs.OneFault.{one_fault}
use Rattle.goal_blocks.proofs.laws.laws_of_faults.Goals as goal

pub returns-clause-fault_excludes_certified : goal.returns-clause-fault_excludes_certified
returns-clause-fault_excludes_certified c = λ plans first wanted fault has certified. excludes plans first wanted fault has certified

pub returns-clause-faultless_is_certified : goal.returns-clause-faultless_is_certified
returns-clause-faultless_is_certified c = λ plans first wanted accepted none. faultless plans first wanted accepted none

pub returns-clause-one_first_fault : goal.returns-clause-one_first_fault
returns-clause-one_first_fault c = λ plans first wanted fault other a b. one_fault plans first wanted fault other a b
