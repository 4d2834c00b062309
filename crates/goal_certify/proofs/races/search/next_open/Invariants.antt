use Rattle.std.proofs.Common.{ℕ, ◌≡◌, ◌-◌, ◌<◌, true}
use Rattle.goal_certify.specs.Races.{is_open}
use Rattle.goal_certify.proofs.races.search.next_open.Given as goal

-- no operation so far is one
abbrev pub invariant-loop-second : goal.invariant-loop-second
invariant-loop-second l = record {
  above : l.first < l.second;
  none : (y : ℕ) → l.first < y → y < l.second → y < l.count → is_open l.before l.shared l.first y ≡ true → ⊥;
}

abbrev pub decreases-loop-second : goal.decreases-loop-second
decreases-loop-second l = l.count - l.second
