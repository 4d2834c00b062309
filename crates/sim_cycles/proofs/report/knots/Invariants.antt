use Rattle.std.proofs.Common.{◌≡◌, map, filter, take}
use Rattle.sim_cycles.specs.Knots.{stuck_ops, is_head, knot_at}
use Rattle.sim_cycles.proofs.report.knots.Given as goal

-- the knots so far
abbrev pub invariant-loop-at : goal.invariant-loop-at
invariant-loop-at l = l.found.items ≡ map (knot_at l.list) (filter (is_head l.list) (take l.at (stuck_ops l.list)))
