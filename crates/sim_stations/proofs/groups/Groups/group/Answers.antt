use Rattle.std.proofs.Common.{◌≡◌, ◌<◌, Some, length, slice_get, ap, subst, arith}
use Rattle.goal_graph.specs.declared.action.Timed.{Timed}
use Rattle.sim_queue.specs.Groups.{Grouped}
use Rattle.sim_stations.proofs.InParts.{part_read}
use Rattle.sim_stations.proofs.groups.Groups.group.Goals as goal

pub returns : goal.returns
returns c =
    let gs = c.self.inside.groups.items in
    let within : c.args.slot < length gs = omega (arith, c.requires, ap (λ (q : Grouped Timed). length q.groups) c.self.view_is) in
    subst (λ (q : Grouped Timed). slice_get q.groups c.args.slot ≡ Some c.index.result.now) c.self.view_is (part_read gs c.args.slot c.index.result.now within c.index.ensures)
