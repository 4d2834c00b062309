use Rattle.std.proofs.Common.{◌≡◌, length}
use Rattle.sim_classes.specs.Rows.{AreStarts}
use Rattle.sim_classes.proofs.pair_classes.starts_of.Given as goal

-- the starts so far, one per node
abbrev pub invariant-loop-node : goal.invariant-loop-node
invariant-loop-node l = AreStarts l.entries l.starts.items × (length l.starts.items ≡ l.node-counter)
