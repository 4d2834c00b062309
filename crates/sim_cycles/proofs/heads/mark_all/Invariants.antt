use Rattle.sim_cycles.specs.Places.{AreSettled}
use Rattle.sim_cycles.proofs.heads.mark_all.Given as goal

-- all before the next start have heads
abbrev pub invariant-loop-start : goal.invariant-loop-start
invariant-loop-start l = AreSettled l.targets l.marks l.start
