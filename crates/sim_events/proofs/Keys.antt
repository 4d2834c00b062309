-- The order of a queue's keys is that of actions.
use Rattle.std.proofs.Common.{◌≡◌, true, ◌∙◌}
use Rattle.goal_graph.specs.declared.action.Timed.{Timed}
use Rattle.goal_graph.specs.Order.{IsLess, key}
use Rattle.goal_graph.proofs.ForCallers.{less_tested}
use Rattle.sim_order.specs.Events.{event_before}
use Rattle.sim_order.proofs.ForCallers.{event_by_key}

pub less_is_event_before : (a b : Timed) → IsLess (key a) (key b) → event_before a b ≡ true
less_is_event_before a b l = event_by_key a b ∙ less_tested (key a) (key b) l
