use Rattle.std.proofs.Common.{ℕ, ◌≡◌, ◌<◌, get_or}
use Rattle.sim_params.specs.Numbers.{numbers}
use Rattle.sim_classes.proofs.machine.Machine.uniform.Given as goal

-- the classes so far have the parameters of the first
abbrev pub invariant-loop-params : goal.invariant-loop-params
invariant-loop-params l = (k : ℕ) → k < l.params-index → numbers (get_or l.self.classes.items k l.first) ≡ numbers l.first
