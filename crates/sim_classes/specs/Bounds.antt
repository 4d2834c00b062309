-- The bound on the costs of a machine.
use Rattle.std.specs.Prelude.{ℕ, zero, suc, List, [], ◌∷◌, map, slice_get, unwrap_or}
use Rattle.sim_params.specs.Costs.{log_gops}
use Rattle.sim_params.specs.Numbers.{numbers, asked}
use Rattle.sim_params.specs.Bounds.{up_bound, log_gops_bounded}
use Rattle.sim_params.specs.Bounded.{IsBounded}
use Rattle.sim_params.specs.declared.params.Params.{Params}
use Rattle.sim_classes.specs.declared.machine.Machine.{Machine}
use Rattle.sim_classes.specs.Machine.{costs_of, costs_between, class_of}
use Rattle.sim_classes.specs.MachineModels.{machine_model}
use Rattle.std.proofs.Common.{arith}

-- each cost of a class is at most 2^61, also that of a class that does not exist
bounded_at : (classes : List Params) (class : ℕ) → IsBounded (log_gops (unwrap_or (slice_get (map numbers classes) class) (asked 0 0 0 0 0 0 0 0)))
bounded_at [] class = record {
  over = λ from to bytes small. omega (arith, up_bound 0 0 bytes (omega arith) (omega arith) small);
  gap = λ from to bytes small. omega (arith, up_bound 0 0 bytes (omega arith) (omega arith) small);
  flight = λ from to bytes small. omega (arith, up_bound 0 0 bytes (omega arith) (omega arith) small);
  latency = λ from to. omega arith;
}
bounded_at (p ∷ ps) zero = log_gops_bounded p
bounded_at (p ∷ ps) (suc class) = bounded_at ps class

-- each number of a machine's costs is at most 2^61
pub machine_bounded : (m : Machine) → IsBounded (costs_of (machine_model m))
unfolding costs_of
machine_bounded m = record {
  over = λ from to bytes small. (each from to).over from to bytes small;
  gap = λ from to bytes small. (each from to).gap from to bytes small;
  flight = λ from to bytes small. (each from to).flight from to bytes small;
  latency = λ from to. (each from to).latency from to;
}
  where
    each : (from to : ℕ) → IsBounded (costs_between (machine_model m) from to)
    each from to = bounded_at m.classes.items (class_of (machine_model m) from to)
