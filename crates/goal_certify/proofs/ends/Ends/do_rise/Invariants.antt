use Rattle.std.proofs.Common.{ℕ, ◌≡◌, ◌+◌, ◌<◌, true, slice_index_or}
use Rattle.std.specs.Ordering.{is_lt}
use Rattle.goal_certify.specs.declared.ends.OpAtEnd.{OpAtEnd}
use Rattle.goal_certify.specs.Ends.{end_cmp}
use Rattle.goal_certify.proofs.ends.Ends.do_rise.Given as goal

-- the ends before the place rise
abbrev pub invariant-loop-place : goal.invariant-loop-place
invariant-loop-place l = (k : ℕ) (d : OpAtEnd) → k + 1 < l.place → is_lt (end_cmp (slice_index_or l.self k d).end (slice_index_or l.self (k + 1) d).end) ≡ true
