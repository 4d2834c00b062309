-- Bounds on costs and parameters.
use Rattle.std.specs.Prelude.{ℕ, ◌<◌, ◌≤◌, ◌^◌}
use Rattle.sim_params.specs.Costs.{CostModel, Numbers}
use Rattle.goal_limits.specs.Limits.{param_limit, per_byte_limit}
use Rattle.sim_params.specs.Defaults.{picos_limit}

-- each number of a cost model is at most 2^61, for messages of at most 2^40-1 bytes
pub record IsBounded (costs : CostModel) : Type 0 where
  pub over : (from to bytes : ℕ) → bytes < 2 ^ 40 → costs.over from to bytes ≤ 2 ^ 61
  pub gap : (from to bytes : ℕ) → bytes < 2 ^ 40 → costs.gap from to bytes ≤ 2 ^ 61
  pub flight : (from to bytes : ℕ) → bytes < 2 ^ 40 → costs.flight from to bytes ≤ 2 ^ 61
  pub latency : (from to : ℕ) → costs.latency from to ≤ 2 ^ 61

-- each parameter is within its limit
pub record IsWithinLimits (n : Numbers) : Type 0 where
  pub latency : n.latency ≤ param_limit
  pub overhead : n.overhead ≤ param_limit
  pub gap : n.gap ≤ param_limit
  pub gap_per_byte : n.gap_per_byte ≤ per_byte_limit
  pub gap_picos : n.gap_picos ≤ picos_limit
  pub overhead_per_byte : n.overhead_per_byte ≤ per_byte_limit
  pub overhead_picos : n.overhead_picos ≤ picos_limit
  pub sync : n.sync ≤ param_limit
