use Rattle.goal_base.proofs.DeviceLemmas.{no_read_fault_on_existing_file, too_long_file_exceeds_input_limit}
use Rattle.goal_base.proofs.laws.laws_of_reading.Goals as goal

pub returns-clause-no_fault : goal.returns-clause-no_fault
returns-clause-no_fault c = no_read_fault_on_existing_file

pub returns-clause-no_short : goal.returns-clause-no_short
returns-clause-no_short c = too_long_file_exceeds_input_limit
