use Rattle.std.proofs.Common.{take}
use Rattle.sim_match.specs.Capacities.{AreCounted}
use Rattle.sim_match.proofs.capacities.count_send.Given as goal

abbrev pub invariant-loop-number : goal.invariant-loop-number
invariant-loop-number l = AreCounted (take l.number-index l.number-items) l.fn.capacities l.capacities
