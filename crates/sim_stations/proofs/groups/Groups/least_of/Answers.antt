use Rattle.std.proofs.Common.{◌∙◌, subst, arith}
use Rattle.std.specs.Option.{IfSome}
use Rattle.goal_graph.specs.declared.action.Timed.{Timed}
use Rattle.sim_order.specs.Events.{event_before}
use Rattle.sim_queue.specs.Groups.{Grouped, IsEmptyGroup, IsLeastOf}
use Rattle.sim_stations.specs.AtSlots.{homes_at_slots}
use Rattle.sim_stations.proofs.AtSlots.{grouped_by_homes}
use Rattle.sim_queue.proofs.ForCallers.{group_past_end_is_empty, empty_group, least_of_answer}
use Rattle.sim_stations.proofs.groups.Groups.least_of.Goals as goal

pub returns-then-group-len-clause-none : goal.returns-then-group-len-clause-none
returns-then-group-len-clause-none c =
    let gs = c.self.inside.groups.items in
    let maps = c.self.inside.heaps.maps in
    λ e. subst (λ (q : Grouped Timed). IsEmptyGroup q c.args.group) (grouped_by_homes gs maps ∙ c.self.view_is) (group_past_end_is_empty (homes_at_slots gs) maps c.self.invariant.housed c.args.group (omega (arith, c.if-group-len.true, c.len.ensures)))

pub returns-clause-none : goal.returns-clause-none
returns-clause-none c =
    let gs = c.self.inside.groups.items in
    let maps = c.self.inside.heaps.maps in
    λ e. subst (λ (q : Grouped Timed). IsEmptyGroup q c.args.group) (grouped_by_homes gs maps ∙ c.self.view_is) (empty_group (homes_at_slots gs) maps c.self.invariant.housed c.args.group (c.least_of.ensures.none e))

pub returns-clause-least : goal.returns-clause-least
returns-clause-least c =
    let gs = c.self.inside.groups.items in
    let maps = c.self.inside.heaps.maps in
    subst (λ (q : Grouped Timed). IfSome c.least_of.result (IsLeastOf event_before q c.args.group)) (grouped_by_homes gs maps ∙ c.self.view_is) (least_of_answer (homes_at_slots gs) maps c.self.invariant.housed event_before c.args.group c.least_of.result c.least_of.ensures.least)
