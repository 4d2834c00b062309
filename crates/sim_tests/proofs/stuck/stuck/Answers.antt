use Rattle.sim_tests.proofs.stuck.stuck.Goals as goal

pub explain-requires-clause-done : goal.explain-requires-clause-done
explain-requires-clause-done c = c.run.ensures.complete.finished
