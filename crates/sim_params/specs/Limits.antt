-- The limits of the parameters: 2^40-1 for L, o, g and S, 2^20-1 for G and O, 999 for Gp and Op.
use Rattle.std.specs.Prelude.{ℕ, nat_lt, Option, Some, None, if◌then◌else◌}
use Rattle.goal_limits.specs.Limits.{param_limit, per_byte_limit}
use Rattle.sim_params.specs.Defaults.{picos_limit}
use Rattle.sim_params.specs.declared.params.Param.{Param}
use Rattle.sim_params.specs.declared.params.Param.TheVariants.{Latency, Overhead, Gap, GapPerByte, Gp, OverheadPerByte, Op, Sync}
use Rattle.sim_params.specs.Costs.{Numbers}

-- this parameter if its value is over the limit, and otherwise the first of the others
abbrev pub over_or : ℕ → ℕ → Param → Option Param → Option Param
over_or limit value which others = if nat_lt limit value then Some which else others

-- the first parameter over its limit, in the order L, o, g, G, Gp, O, Op, S
abbrev pub first_over : Numbers → Option Param
first_over n =
    over_or param_limit n.latency Latency
    (over_or param_limit n.overhead Overhead
    (over_or param_limit n.gap Gap
    (over_or per_byte_limit n.gap_per_byte GapPerByte
    (over_or picos_limit n.gap_picos Gp
    (over_or per_byte_limit n.overhead_per_byte OverheadPerByte
    (over_or picos_limit n.overhead_picos Op
    (over_or param_limit n.sync Sync None)))))))
