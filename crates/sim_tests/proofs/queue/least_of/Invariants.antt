use Rattle.std.proofs.Common.{◌≡◌, length}
use Rattle.sim_tests.proofs.queue.least_of.Given as goal

abbrev pub invariant-puts : goal.invariant-puts
invariant-puts g l = length (g.Q.EventQueue.keys l.queue) ≡ 12
