use Rattle.std.proofs.Common.{ℕ, ◌≡◌, ◌<◌, true}
use Rattle.goal_certify.specs.Races.{is_open}
use Rattle.goal_certify.proofs.races.search.first_open.Given as goal

-- no pair so far is open
abbrev pub invariant-loop-first : goal.invariant-loop-first
invariant-loop-first l = (x y : ℕ) → x < l.first → x < y → y < l.count → is_open l.before l.shared x y ≡ true → ⊥
