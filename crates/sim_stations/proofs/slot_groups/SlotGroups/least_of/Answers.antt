use Rattle.std.proofs.Common.{subst, arith}
use Rattle.std.specs.Option.{IfSome}
use Rattle.goal_graph.specs.declared.action.Timed.{Timed}
use Rattle.sim_order.specs.Events.{event_before}
use Rattle.sim_queue.specs.Groups.{Grouped, IsEmptyGroup, IsLeastOf}
use Rattle.sim_queue.proofs.ForCallers.{group_past_end_is_empty, empty_group, least_of_answer}
use Rattle.sim_stations.proofs.slot_groups.SlotGroups.least_of.Goals as goal

pub returns-then-group-len-clause-none : goal.returns-then-group-len-clause-none
returns-then-group-len-clause-none g c =
    λ e. subst (λ (q : Grouped Timed). IsEmptyGroup q c.args.group) c.self.view_is (group_past_end_is_empty c.self.inside.homes.items c.self.inside.heaps c.self.invariant c.args.group (omega (arith, c.if-group-len.true, c.len.ensures)))

pub returns-clause-none : goal.returns-clause-none
returns-clause-none g c =
    λ e. subst (λ (q : Grouped Timed). IsEmptyGroup q c.args.group) c.self.view_is (empty_group c.self.inside.homes.items c.self.inside.heaps c.self.invariant c.args.group (c.least_of.ensures.none e))

pub returns-clause-least : goal.returns-clause-least
returns-clause-least g c =
    subst (λ (q : Grouped Timed). IfSome c.least_of.result (IsLeastOf event_before q c.args.group)) c.self.view_is (least_of_answer c.self.inside.homes.items c.self.inside.heaps c.self.invariant event_before c.args.group c.least_of.result c.least_of.ensures.least)
