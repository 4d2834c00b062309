use Rattle.std.proofs.Common.{ℕ, ◌≡◌, ◌/◌, ◌<◌, true}
use Rattle.goal_certify.specs.Rows.{has}
use Rattle.goal_certify.proofs.races.ordered.is_covered.Given as goal

-- the numbers of the words so far are covered
abbrev pub invariant-loop-place : goal.invariant-loop-place
invariant-loop-place l = (k : ℕ) → k < l.row → k / 64 < l.place → has l.others l.other k ≡ true → has l.rows l.row k ≡ true
