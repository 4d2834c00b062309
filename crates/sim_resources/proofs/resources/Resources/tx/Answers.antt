use Rattle.std.proofs.Common.{ℕ, ◌≡◌, Some, slice_get, length, sym, ap, subst, arith}
use Rattle.goal_graph.specs.Fault.{IsOp}
use Rattle.goal_graph.proofs.ForCallers.{send_is_op}
use Rattle.sim_resources.specs.declared.pair.Pair.{Pair}
use Rattle.sim_resources.specs.FreeTimes.{Holds}
use Rattle.sim_resources.proofs.HoldLemmas.{tx_within, read_time_is_tx_free}
use Rattle.sim_resources.proofs.resources.Resources.tx.Goals as goal

pub pair_of-pair-requires : goal.pair_of-pair-requires
pair_of-pair-requires c = record {
  exists = subst (λ (r : Holds). IsOp r.plans c.args.id) (sym c.self.view_is) (send_is_op _ c.args.id c.requires);
  numbered = c.self.invariant.0;
}

pub free-requires : goal.free-requires
free-requires c =
    omega (arith, ap (λ (p : Pair). p.side) c.pair_of-pair.ensures, tx_within _ _ c.self.invariant.0 c.self.inside.free.items c.self.invariant.1 _ c.self.view_is c.args.id c.requires, ap length c.deref.ensures.value)

pub returns : goal.returns
returns c =
    read_time_is_tx_free _ _ c.self.invariant.0 c.self.inside.free.items c.self.invariant.1 _ c.self.view_is c.args.id c.free.result c.requires
    (subst (λ (p : Pair). (t : ℕ) → slice_get c.self.inside.free.items p.side ≡ Some t → c.free.result ≡ t) c.pair_of-pair.ensures (rw c.deref.ensures.value at c.free.ensures))
