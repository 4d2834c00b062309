use Rattle.goal_cli.proofs.source.take_machine.Goals as goal

pub returns-in-Ok-clause-taken : goal.returns-in-Ok-clause-taken
returns-in-Ok-clause-taken g c = rw c.in-Machine.is (rw c.as_str.ensures at c.read_all.ensures.taken)

pub returns-in-Err-Fault-clause-taken : goal.returns-in-Err-Fault-clause-taken
returns-in-Err-Fault-clause-taken g c = rw c.in-Machine.is (rw c.as_str.ensures at c.read_all.ensures.taken)

pub returns-in-Err-TooLong-clause-taken : goal.returns-in-Err-TooLong-clause-taken
returns-in-Err-TooLong-clause-taken g c = rw c.in-Machine.is (rw c.as_str.ensures at c.read_all.ensures.taken)

pub returns-in-Err-NoMemory-clause-taken : goal.returns-in-Err-NoMemory-clause-taken
returns-in-Err-NoMemory-clause-taken g c = rw c.in-Machine.is (rw c.as_str.ensures at c.read_all.ensures.taken)
