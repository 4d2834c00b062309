use Rattle.std.proofs.Common.{◌≡◌, drop}
use Rattle.goal_graph.specs.Fault.{dep_fault, first_fault}
use Rattle.goal_graph.proofs.check.first_dep_fault.Given as goal

-- the dependencies so far have no fault
abbrev pub invariant-loop-number : goal.invariant-loop-number
invariant-loop-number l = first_fault (dep_fault l.ops l.rank) l.number (drop l.number l.deps) ≡ first_fault (dep_fault l.ops l.rank) 0 l.deps
