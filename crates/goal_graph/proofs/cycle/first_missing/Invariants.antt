use Rattle.std.proofs.Common.{◌≡◌, ℕ, ◌<◌, get_or}
use Rattle.goal_graph.proofs.cycle.first_missing.Given as goal

-- the operations before this one miss nothing
abbrev pub invariant-loop-op : goal.invariant-loop-op
invariant-loop-op l = (k : ℕ) → k < l.op → get_or l.missing k 0 ≡ 0
