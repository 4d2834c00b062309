use Rattle.std.proofs.Common.{ℕ, ◌≡◌, ◌<◌, ◌≤◌, true}
use Rattle.goal_limits.specs.Limits.{certified_op_limit}
use Rattle.goal_certify.specs.Rows.{has}
use Rattle.goal_certify.proofs.races.rows.clear_rows.Given as goal

-- later rows alone have numbers
abbrev pub invariant-loop-row : goal.invariant-loop-row
invariant-loop-row l =
    (r k : ℕ) → k < certified_op_limit → has l.rows r k ≡ true → (l.row ≤ r) × (r < l.count) × (k < l.count)
