use Rattle.std.proofs.Common.{◌≡◌}
use Rattle.goal_collectives.specs.Probe.{idle_ranks}
use Rattle.goal_collectives.proofs.probe.idle_ranks.Given as goal

abbrev pub invariant-loop-rank : goal.invariant-loop-rank
invariant-loop-rank l = l.plans.items ≡ idle_ranks l._rank
