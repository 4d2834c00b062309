use Rattle.std.proofs.Common.{◌≡◌, ◌≤◌, ◌^◌, take}
use Rattle.std.specs.List.{sum_by}
use Rattle.goal_limits.specs.Limits.{moved_limit}
use Rattle.goal_certify.proofs.Sizing.{moved_of, NoneBelow}
use Rattle.goal_certify.proofs.sizes.check_sizes.Given as goal

-- the ranks so far are not too large, and their moves are counted
abbrev pub invariant-loop-rank : goal.invariant-loop-rank
invariant-loop-rank l = record {
  counted : l.moved ≡ sum_by moved_of (take l.rank l.sched);
  few : l.moved ≤ moved_limit;
  none : NoneBelow l.sched l.rank;
}
