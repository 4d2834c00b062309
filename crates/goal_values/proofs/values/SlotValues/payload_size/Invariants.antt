use Rattle.std.proofs.Common.{◌≡◌}
use Rattle.goal_values.proofs.Writing.{first_sizes}
use Rattle.goal_values.proofs.values.SlotValues.payload_size.Given as goal

-- the sizes of the values so far
abbrev pub invariant-loop-term : goal.invariant-loop-term
invariant-loop-term l = l.size ≡ first_sizes l.self.sums l.term-items l.term-index
