use Rattle.std.proofs.Common.{ℕ, ◌≡◌, Some, slice_get, length, sym, ap, subst, arith}
use Rattle.std.specs.Vec.{with_items}
use Rattle.std.proofs.lemmas.List.{with_items_is}
use Rattle.goal_graph.specs.Fault.{IsOp}
use Rattle.goal_graph.proofs.ForCallers.{receive_is_op}
use Rattle.sim_resources.specs.declared.pair.Pair.{Pair}
use Rattle.sim_resources.specs.FreeTimes.{Holds}
use Rattle.sim_resources.proofs.FreeTimes.{raised}
use Rattle.sim_resources.proofs.HoldLemmas.{rx_within, raised_time_holds_rx}
use Rattle.sim_resources.proofs.resources.Resources.hold_rx.Goals as goal

pub pair_of-pair-requires : goal.pair_of-pair-requires
pair_of-pair-requires c = record {
  exists = subst (λ (r : Holds). IsOp r.plans c.args.id) (sym c.self.view_is) (receive_is_op _ c.args.id c.requires);
  numbered = c.self.invariant.0;
}

pub raise-requires : goal.raise-requires
raise-requires c =
    omega (arith, ap (λ (p : Pair). p.side) c.pair_of-pair.ensures, rx_within _ _ c.self.invariant.0 c.self.inside.free.items c.self.invariant.1 _ c.self.view_is c.args.id c.requires, ap length c.deref_mut.ensures.value)

pub returns : goal.returns
returns c =
    let items : (with_items c.self.inside.free c.raise.new.times).items ≡ c.raise.new.times = with_items_is c.self.inside.free c.raise.new.times (omega arith) in
    rw items (raised_time_holds_rx _ _ c.self.invariant.0 c.self.inside.free.items c.self.invariant.1 _ c.self.view_is c.args.id c.args.until c.raise.new.times c.requires
    (subst (λ (p : Pair). (t : ℕ) → slice_get c.self.inside.free.items p.side ≡ Some t → c.raise.new.times ≡ raised c.self.inside.free.items p.side t c.args.until) c.pair_of-pair.ensures (rw c.deref_mut.ensures.value at c.raise.ensures)))
