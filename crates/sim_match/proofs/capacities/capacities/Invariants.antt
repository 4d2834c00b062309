use Rattle.std.proofs.Common.{take}
use Rattle.sim_match.specs.ListNumbers.{AreNumbered}
use Rattle.sim_match.specs.Capacities.{AreCapacities}
use Rattle.sim_match.proofs.capacities.capacities.Given as goal

abbrev pub invariant-loop-id : goal.invariant-loop-id
invariant-loop-id l = (n : AreNumbered l.sched l.numbers) → AreCapacities l.sched n.keys (take l.id-index l.id-items) l.capacities.items
