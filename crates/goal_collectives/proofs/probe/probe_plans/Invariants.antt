use Rattle.std.proofs.Common.{◌≡◌}
use Rattle.goal_collectives.specs.Probe.{probed, state_before}
use Rattle.goal_collectives.proofs.probe.probe_plans.Given as goal

abbrev pub invariant-loop-number : goal.invariant-loop-number
invariant-loop-number l = record {
  plans : l.plans.items ≡ probed l.number l.seed;
  state : l.draws.state ≡ state_before l.seed l.number;
}
