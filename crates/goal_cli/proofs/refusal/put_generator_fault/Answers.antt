use Rattle.goal_cli.proofs.refusal.put_generator_fault.Goals as goal

pub returns-in-Ranks : goal.returns-in-Ranks
returns-in-Ranks c = rw c.in-Ranks.is (rw c.from.ensures at c.put_at.ensures)

pub returns-in-Root : goal.returns-in-Root
returns-in-Root c = rw c.in-Root.is c.word.ensures.ok

pub returns-in-NotPowerOfTwo : goal.returns-in-NotPowerOfTwo
returns-in-NotPowerOfTwo c = rw c.in-NotPowerOfTwo.is c.word-in-NotPowerOfTwo.ensures.ok
