use Rattle.std.proofs.Common.{◌≡◌, ℕ, ◌+◌, ◌-◌, ◌*◌, ◌/◌, ◌%◌, min, ap, arith}
use Rattle.sim_params.specs.Costs.{rounded_up}
use Rattle.sim_params.specs.Bounds.{rounded_is}
use Rattle.sim_params.proofs.costs.up.Goals as goal

rounded_by_rest : (picos : ℕ) → picos / 1000 + min 1 (picos % 1000) ≡ rounded_up picos
rounded_by_rest picos = rw (rounded_is picos) (omega arith)

pub returns-clause-is : goal.returns-clause-is
returns-clause-is c =
    rw (c.div_ceil.ensures, c.saturating_sub-body.ensures) (ap (λ n. c.args.nanos * (c.args.bytes - 1) + n) (rounded_by_rest (c.args.picos * (c.args.bytes - 1))))
