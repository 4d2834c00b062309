use Rattle.std.proofs.Common.{ℕ, ◌≡◌, ◌*◌, ◌<◌, ◌≤◌, true}
use Rattle.goal_certify.specs.Races.{is_open}
use Rattle.goal_certify.proofs.races.search.is_open_in_word.Given as goal

-- none of the word so far is open
abbrev pub invariant-loop-first : goal.invariant-loop-first
invariant-loop-first l = (x : ℕ) → 64 * l.place ≤ x → x < l.first → is_open l.before l.shared x l.second ≡ true → ⊥
