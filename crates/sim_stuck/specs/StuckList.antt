-- The stuck operations of a run, each with its reason.
use Rattle.std.specs.Prelude.{List, map, filter}
use Rattle.goal_graph.specs.declared.action.OpId.{OpId}
use Rattle.goal_graph.specs.declared.action.Timed.{Timed}
use Rattle.goal_graph.specs.declared.action.Stuck.{Stuck}
use Rattle.goal_graph.specs.declared.action.Why.{Why}
use Rattle.goal_graph.specs.Schedule.{Plan, operations}
use Rattle.goal_graph.specs.Action.{plain}
use Rattle.sim_params.specs.Costs.{CostModel, is_eager}
use Rattle.sim_params.specs.Stuck.{lacks_end, reason}

module _ (plans : List Plan) (costs : CostModel) (h : List Timed) where
  -- the reason of x
  abbrev pub reason_of : OpId → Why
  reason_of x = reason plans (is_eager plans costs) (plain h) x

  -- x, with its reason
  abbrev pub with_reason : OpId → Stuck
  with_reason x = record { op = x; why = reason_of x }

  -- each operation without an end, with its reason, by rank and number
  unfoldable pub stuck_list : List Stuck
  stuck_list = map with_reason (filter (lacks_end plans costs h) (operations plans))
