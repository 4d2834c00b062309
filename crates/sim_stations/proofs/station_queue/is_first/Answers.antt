use Rattle.std.proofs.Common.{sym, ◌∙◌}
use Rattle.sim_order.specs.Events.{event_before}
use Rattle.sim_order.specs.EventLaws.{event_laws}
use Rattle.sim_queue.proofs.ForCallers.{not_before_transitive, before_asymmetric}
use Rattle.sim_stations.proofs.station_queue.is_first.Goals as goal

pub returns-in-Some-clause-first : goal.returns-in-Some-clause-first
returns-in-Some-clause-first g c =
    λ e slot k member has.
    let least = c.in-Some.ensures.least in
    let back = before_asymmetric event_before event_laws c.args.key c.in-Some.least (sym c.before-in-Some.ensures.tells ∙ e) in
    not_before_transitive event_before event_laws k c.in-Some.least c.args.key (least.least slot k member has) back
