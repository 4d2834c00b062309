use Rattle.std.proofs.Common.{ℕ, ◌≡◌, ◌<◌, true}
use Rattle.goal_certify.specs.Races.{is_open}
use Rattle.goal_certify.proofs.races.search.is_any_open.Given as goal

-- no pair so far is open
abbrev pub invariant-loop-second : goal.invariant-loop-second
invariant-loop-second l = (x y : ℕ) → x < y → y < l.second → is_open l.before l.shared x y ≡ true → ⊥
