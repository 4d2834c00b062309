use Rattle.std.proofs.Common.{◌<◌, ◌≡◌, length, count_by}
use Rattle.sim_cycles.specs.Walks.{after}
use Rattle.sim_cycles.specs.Places.{target_at, is_unseen, AreMarks, StaySeen}
use Rattle.sim_cycles.proofs.heads.walk.Given as goal

-- the way so far
abbrev pub invariant-loop-marks : goal.invariant-loop-marks
invariant-loop-marks l = record {
  marks : AreMarks l.targets l.marks l.start l.way.items;
  there : l.at ≡ after (target_at l.targets) (length l.way.items) l.start;
  inside : l.at < length l.targets;
  stay : StaySeen l.initial.marks l.marks;
}

-- each step marks one more
abbrev pub decreases-loop-marks : goal.decreases-loop-marks
decreases-loop-marks l = count_by is_unseen l.marks
