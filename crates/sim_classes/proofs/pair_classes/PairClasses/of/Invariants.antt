use Rattle.std.proofs.Common.{◌≡◌, ◌++◌}
use Rattle.sim_classes.proofs.pair_classes.PairClasses.of.Given as goal

-- the entries so far, followed by the remaining ones
abbrev pub invariant-loop-entry : goal.invariant-loop-entry
invariant-loop-entry l = l.entries.items ++ l.entry-iterator ≡ l.fn.map.entries
