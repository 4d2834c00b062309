use Rattle.std.proofs.Common.{◌<◌, None, length, set, refl, sym, ◌∙◌, ap, subst, arith}
use Rattle.std.proofs.lemmas.List.{length-map}
use Rattle.goal_graph.specs.declared.action.Timed.{Timed}
use Rattle.sim_queue.specs.Groups.{Grouped, IsHoused, grouped, heap_at, key_of_home}
use Rattle.sim_queue.proofs.ForCallers.{home_read, grouped_after_change, housed_after_change}
use Rattle.sim_stations.proofs.slot_groups.SlotGroups.drop_slot.Goals as goal

pub drop_slot-requires-clause-group_in : goal.drop_slot-requires-clause-group_in
drop_slot-requires-clause-group_in g c =
    let homes = c.self.inside.homes.items in
    let heaps = c.self.inside.heaps in
    let home = c.index-home.result.now in
    let within : c.args.slot < length homes = omega (arith, c.requires, ap (λ (q : Grouped Timed). length q.keys) c.self.view_is, length-map homes (key_of_home heaps)) in
    let at = home_read homes heaps c.self.invariant c.args.slot home within c.index-home.ensures in
    c.self.invariant.group_in c.args.slot home at

pub drop_slot-requires-clause-place_in : goal.drop_slot-requires-clause-place_in
drop_slot-requires-clause-place_in g c =
    let homes = c.self.inside.homes.items in
    let heaps = c.self.inside.heaps in
    let home = c.index-home.result.now in
    let within : c.args.slot < length homes = omega (arith, c.requires, ap (λ (q : Grouped Timed). length q.keys) c.self.view_is, length-map homes (key_of_home heaps)) in
    let at = home_read homes heaps c.self.invariant c.args.slot home within c.index-home.ensures in
    c.self.invariant.place_in c.args.slot home at

pub invariant_of-self : goal.invariant_of-self
invariant_of-self g c =
    let homes = c.self.inside.homes.items in
    let heaps = c.self.inside.heaps in
    let home = c.index-home.result.now in
    let within : c.args.slot < length homes = omega (arith, c.requires, ap (λ (q : Grouped Timed). length q.keys) c.self.view_is, length-map homes (key_of_home heaps)) in
    let at = home_read homes heaps c.self.invariant c.args.slot home within c.index-home.ensures in
    subst (IsHoused homes) (sym c.drop_slot.ensures.dropped) (housed_after_change homes heaps c.self.invariant c.args.slot home at None (heap_at heaps home.group) (set (heap_at heaps home.group) home.place None) refl refl)

pub returns-clause-dropped : goal.returns-clause-dropped
returns-clause-dropped g c =
    let homes = c.self.inside.homes.items in
    let heaps = c.self.inside.heaps in
    let home = c.index-home.result.now in
    let within : c.args.slot < length homes = omega (arith, c.requires, ap (λ (q : Grouped Timed). length q.keys) c.self.view_is, length-map homes (key_of_home heaps)) in
    let at = home_read homes heaps c.self.invariant c.args.slot home within c.index-home.ensures in
    ap (grouped homes) c.drop_slot.ensures.dropped ∙ grouped_after_change homes heaps c.self.invariant c.args.slot home at None (heap_at heaps home.group) (set (heap_at heaps home.group) home.place None) refl refl ∙ ap (λ (q : Grouped Timed). record { keys = set q.keys c.args.slot None; groups = q.groups }) c.self.view_is
