use Rattle.std.proofs.Common.{List, subst}
use Rattle.goal_graph.specs.Schedule.{Plan}
use Rattle.sim_resources.specs.Numbering.{AreNumbered}
use Rattle.sim_state.proofs.Views.{free_at_view}
use Rattle.sim_state.proofs.state.RunState.stations.Goals as goal

pub returns : goal.returns
returns g c =
    let free = free_at_view g.C.Costs.model _ _ _ c.self.view_is c.self.invariant.free in
    subst (λ (plans : List Plan). AreNumbered plans c.stations.result.now) free.same_plans c.stations.ensures
