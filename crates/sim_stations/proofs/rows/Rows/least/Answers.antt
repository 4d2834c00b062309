use Rattle.std.proofs.Common.{is_some, sym, ap, subst}
use Rattle.sim_queue.specs.Map.{IsEmptyMap}
use Rattle.sim_stations.specs.Rows.{Rowed, IsFirst}
use Rattle.sim_stations.proofs.RowsLeast.{seen_empty_if_heads_empty, seen_not_empty_if_head, first_shown}
use Rattle.sim_stations.proofs.rows.Rows.least.Goals as goal

pub returns-in_err-key-clause-none : goal.returns-in_err-key-clause-none
returns-in_err-key-clause-none g c =
    let q = c.self.inside in
    let empty = seen_empty_if_heads_empty q.rows q.heads q.pairs.items q.turned.items q.free.times c.self.invariant.0 c.self.invariant.1 (c.least.ensures.none.0 (ap is_some c.in_err-key.was)) in
    (λ e. subst (λ (r : Rowed). IsEmptyMap r.keys) c.self.view_is empty, λ e. ap is_some c.from_residual.ensures)

pub returns-clause-none : goal.returns-clause-none
returns-clause-none g c =
    let q = c.self.inside in
    (λ e. absurd (cc), λ empty. absurd (seen_not_empty_if_head q.rows q.heads q.pairs.items q.turned.items q.free.times c.self.invariant.0 c.self.invariant.1 c.in_ok-key.field-0-0 c.in_ok-key.key c.in_ok-key.ensures.least.has (subst (λ (r : Rowed). IsEmptyMap r.keys) (sym c.self.view_is) empty)))

pub returns-clause-least : goal.returns-clause-least
returns-clause-least g c =
    let q = c.self.inside in
    subst (λ (r : Rowed). IsFirst r c.in_ok-key.key) c.self.view_is (first_shown q.rows q.heads q.pairs.items q.turned.items q.free.times c.self.invariant.0 c.self.invariant.1 c.in_ok-key.field-0-0 c.in_ok-key.key c.in_ok-key.ensures.least)
