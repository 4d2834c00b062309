use Rattle.std.proofs.Common.{ℕ, ◌≡◌, Some, slice_get, length, ap, subst, arith}
use Rattle.std.specs.Vec.{with_items}
use Rattle.std.proofs.lemmas.List.{with_items_is}
use Rattle.sim_resources.specs.declared.pair.Pair.{Pair}
use Rattle.sim_resources.proofs.FreeTimes.{raised}
use Rattle.sim_resources.proofs.HoldLemmas.{cpu_within, raised_time_holds_cpu}
use Rattle.sim_resources.proofs.resources.Resources.hold_cpu.Goals as goal

pub raise-requires : goal.raise-requires
raise-requires c =
    omega (arith, ap (λ (p : Pair). p.cpu) c.pair_of-pair.ensures, cpu_within _ _ c.self.invariant.0 c.self.inside.free.items c.self.invariant.1 _ c.self.view_is c.args.id c.requires, ap length c.deref_mut.ensures.value)

pub returns : goal.returns
returns c =
    let items : (with_items c.self.inside.free c.raise.new.times).items ≡ c.raise.new.times = with_items_is c.self.inside.free c.raise.new.times (omega arith) in
    rw items (raised_time_holds_cpu _ _ c.self.invariant.0 c.self.inside.free.items c.self.invariant.1 _ c.self.view_is c.args.id c.args.until c.raise.new.times c.requires
    (subst (λ (p : Pair). (t : ℕ) → slice_get c.self.inside.free.items p.cpu ≡ Some t → c.raise.new.times ≡ raised c.self.inside.free.items p.cpu t c.args.until) c.pair_of-pair.ensures (rw c.deref_mut.ensures.value at c.raise.ensures)))
