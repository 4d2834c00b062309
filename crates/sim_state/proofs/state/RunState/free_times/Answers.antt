use Rattle.std.proofs.Common.{List, Some, slice_get, sym, ap, ◌∙◌, subst}
use Rattle.goal_graph.specs.Schedule.{Plan, operations}
use Rattle.sim_resources.specs.Numbering.{AreStationed}
use Rattle.sim_state.proofs.FreeTimes.{side_at_history}
use Rattle.sim_state.proofs.Views.{free_at_view}
use Rattle.sim_state.proofs.state.RunState.free_times.Goals as goal

pub returns : goal.returns
returns g c = λ numbers pairs stationed slot x at.
    let free = free_at_view g.C.Costs.model _ _ _ c.self.view_is c.self.invariant.free in
    let here = subst (λ (plans : List Plan). AreStationed plans numbers pairs) (sym free.same_plans) stationed in
    let times = c.free_times.ensures numbers pairs here slot x (ap (λ (plans : List Plan). slice_get (operations plans) slot) free.same_plans ∙ at) in
    record {
      cpu_time = times.cpu_time ∙ ap Some (free.cpus x);
      side_time = times.side_time ∙ ap Some (side_at_history _ _ _ _ free x);
    }
