use Rattle.std.proofs.Common.{ℕ, ◌≡◌, ◌/◌, ◌<◌, true}
use Rattle.goal_certify.specs.Races.{is_open}
use Rattle.goal_certify.proofs.races.search.is_open_below.Given as goal

-- none of the words so far is open
abbrev pub invariant-loop-place : goal.invariant-loop-place
invariant-loop-place l = (x : ℕ) → x < l.second → x / 64 < l.place → is_open l.before l.shared x l.second ≡ true → ⊥
