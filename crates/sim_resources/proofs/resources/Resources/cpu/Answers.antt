use Rattle.std.proofs.Common.{ℕ, ◌≡◌, Some, slice_get, length, ap, subst, arith}
use Rattle.sim_resources.specs.declared.pair.Pair.{Pair}
use Rattle.sim_resources.proofs.HoldLemmas.{cpu_within, read_time_is_cpu_free}
use Rattle.sim_resources.proofs.resources.Resources.cpu.Goals as goal

pub free-requires : goal.free-requires
free-requires c =
    omega (arith, ap (λ (p : Pair). p.cpu) c.pair_of-pair.ensures, cpu_within _ _ c.self.invariant.0 c.self.inside.free.items c.self.invariant.1 _ c.self.view_is c.args.id c.requires, ap length c.deref.ensures.value)

pub returns : goal.returns
returns c =
    read_time_is_cpu_free _ _ c.self.invariant.0 c.self.inside.free.items c.self.invariant.1 _ c.self.view_is c.args.id c.free.result c.requires
    (subst (λ (p : Pair). (t : ℕ) → slice_get c.self.inside.free.items p.cpu ≡ Some t → c.free.result ≡ t) c.pair_of-pair.ensures (rw c.deref.ensures.value at c.free.ensures))
