-- What is known of an engine once its run is over.
use Rattle.std.specs.Prelude.{◌≡◌, List}
use Rattle.goal_graph.specs.declared.action.Timed.{Timed}
use Rattle.goal_graph.specs.Schedule.{Plan}
use Rattle.sim_params.specs.Costs.{CostModel}
use Rattle.sim_params.specs.Run.{IsCompleteRun}
use Rattle.sim_events.specs.Engine.{RunSoFar}

-- its run is the one complete run of this schedule with these costs
pub record IsRunOf {C : Type 0} (costs : CostModel) (sched : List Plan) (engine : RunSoFar C) : Type 0 where
  pub plans : engine.plans ≡ sched
  pub complete : IsCompleteRun sched costs engine.history
  pub only : (h : List Timed) → IsCompleteRun sched costs h → h ≡ engine.history
