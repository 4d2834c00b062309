use Rattle.std.proofs.Common.{◌<◌, Some, length, set, refl, sym, ◌∙◌, ap, subst, arith}
use Rattle.std.proofs.lemmas.List.{length-map}
use Rattle.goal_graph.specs.declared.action.Timed.{Timed}
use Rattle.sim_queue.specs.Item.{at_time}
use Rattle.sim_queue.specs.Groups.{Grouped, IsHoused, grouped, heap_at, key_of_home}
use Rattle.sim_queue.proofs.ForCallers.{home_read, grouped_after_change, housed_after_change}
use Rattle.sim_stations.proofs.slot_groups.SlotGroups.put.Goals as goal

pub put-requires-clause-group_in : goal.put-requires-clause-group_in
put-requires-clause-group_in g c =
    let homes = c.self.inside.homes.items in
    let heaps = c.self.inside.heaps in
    let home = c.index-home.result.now in
    let within : c.args.slot < length homes = omega (arith, c.requires, ap (λ (q : Grouped Timed). length q.keys) c.self.view_is, length-map homes (key_of_home heaps)) in
    let at = home_read homes heaps c.self.invariant c.args.slot home within c.index-home.ensures in
    c.self.invariant.group_in c.args.slot home at

pub put-requires-clause-place_in : goal.put-requires-clause-place_in
put-requires-clause-place_in g c =
    let homes = c.self.inside.homes.items in
    let heaps = c.self.inside.heaps in
    let home = c.index-home.result.now in
    let within : c.args.slot < length homes = omega (arith, c.requires, ap (λ (q : Grouped Timed). length q.keys) c.self.view_is, length-map homes (key_of_home heaps)) in
    let at = home_read homes heaps c.self.invariant c.args.slot home within c.index-home.ensures in
    c.self.invariant.place_in c.args.slot home at

pub invariant_of-self : goal.invariant_of-self
invariant_of-self g c =
    let homes = c.self.inside.homes.items in
    let heaps = c.self.inside.heaps in
    let home = c.index-home.result.now in
    let within : c.args.slot < length homes = omega (arith, c.requires, ap (λ (q : Grouped Timed). length q.keys) c.self.view_is, length-map homes (key_of_home heaps)) in
    let at = home_read homes heaps c.self.invariant c.args.slot home within c.index-home.ensures in
    subst (IsHoused homes) (sym c.put.ensures.put) (housed_after_change homes heaps c.self.invariant c.args.slot home at (Some (at_time 0 c.args.key)) (heap_at heaps home.group) (set (heap_at heaps home.group) home.place (Some (at_time 0 c.args.key))) refl refl)

pub returns-clause-put : goal.returns-clause-put
returns-clause-put g c =
    let homes = c.self.inside.homes.items in
    let heaps = c.self.inside.heaps in
    let home = c.index-home.result.now in
    let within : c.args.slot < length homes = omega (arith, c.requires, ap (λ (q : Grouped Timed). length q.keys) c.self.view_is, length-map homes (key_of_home heaps)) in
    let at = home_read homes heaps c.self.invariant c.args.slot home within c.index-home.ensures in
    ap (grouped homes) c.put.ensures.put ∙ grouped_after_change homes heaps c.self.invariant c.args.slot home at (Some (at_time 0 c.args.key)) (heap_at heaps home.group) (set (heap_at heaps home.group) home.place (Some (at_time 0 c.args.key))) refl refl ∙ ap (λ (q : Grouped Timed). record { keys = set q.keys c.args.slot (Some (at_time 0 c.args.key)); groups = q.groups }) c.self.view_is
