use Rattle.std.proofs.Common.{sym, ◌∙◌}
use Rattle.sim_order.specs.Events.{event_before}
use Rattle.sim_order.specs.EventLaws.{event_laws}
use Rattle.sim_queue.proofs.ForCallers.{not_before_transitive, before_asymmetric}
use Rattle.sim_stations.proofs.station_queue.first.Goals as goal

pub returns-then-before-clause-first : goal.returns-then-before-clause-first
returns-then-before-clause-first g c =
    let key = c.in-Some.ensures.least in
    let head = c.in-Some-least.ensures.least in
    let back = before_asymmetric event_before event_laws c.in-Some-least.head c.in-Some.key (sym c.before-2.ensures.tells ∙ c.if-before.true) in
    record {
      seen = (head.station, head.has);
      least_ahead = λ slot k e. not_before_transitive event_before event_laws k c.in-Some.key c.in-Some-least.head (key.1.least slot k e) back;
      least_shown = head.least;
    }

pub returns-else-before-clause-first : goal.returns-else-before-clause-first
returns-else-before-clause-first g c =
    let key = c.in-Some.ensures.least in
    let head = c.in-Some-least.ensures.least in
    let back = sym c.before-2.ensures.tells ∙ c.if-before.false in
    record {
      seen = (key.0, key.1.has);
      least_ahead = key.1.least;
      least_shown = λ station k e. not_before_transitive event_before event_laws k c.in-Some-least.head c.in-Some.key (head.least station k e) back;
    }
