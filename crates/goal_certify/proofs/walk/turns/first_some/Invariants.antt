use Rattle.std.proofs.Common.{ℕ, ◌≡◌, ◌<◌, slice_index}
use Rattle.goal_certify.proofs.walk.turns.first_some.Given as goal

-- all words so far are 0
abbrev pub invariant-loop-at : goal.invariant-loop-at
invariant-loop-at l = (a : ℕ) → a < l.at → slice_index l.words a ≡ 0
