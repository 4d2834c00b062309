-- What may happen next of one operation, class by class.
use Rattle.std.specs.Prelude.{ℕ, ◌≡◌, false, List, Option, Some, None, if◌then◌else◌}
use Rattle.goal_graph.specs.declared.action.OpId.{OpId}
use Rattle.goal_graph.specs.declared.action.Timed.{Timed}
use Rattle.goal_graph.specs.declared.action.Class.{Class}
use Rattle.goal_graph.specs.declared.plan.When.{When}
use Rattle.goal_graph.specs.declared.plan.When.TheVariants.{AfterEnd, AfterStart}
use Rattle.goal_graph.specs.Schedule.{Plan}
use Rattle.goal_graph.specs.Action.{plain}
use Rattle.goal_graph.specs.Allowed.{is_ready, allowed}
use Rattle.sim_params.specs.Costs.{CostModel, is_eager}
use Rattle.sim_params.specs.Times.{ready, time, Possible}
use Rattle.sim_params.specs.Laws.{at_its_time}
use Rattle.sim_state.specs.Engine.{start_known, end_known}

-- the moment of x that a dependency waits for, once it is known
abbrev pub moment_known : List Plan → CostModel → List Timed → When → OpId → Option ℕ
moment_known plans costs h AfterEnd x = end_known plans costs h x
moment_known plans costs h AfterStart x = start_known plans costs h x

-- when all that x needs has happened, once it has
abbrev pub ready_known : List Plan → CostModel → List Timed → OpId → Option ℕ
ready_known plans costs h x =
    if is_ready plans (is_eager plans costs) (plain h) x then Some (ready plans costs h x) else None

-- when the action of this class of x happens, if it is allowed
abbrev pub time_known : List Plan → CostModel → List Timed → Class → OpId → Option ℕ
time_known plans costs h class x =
    if allowed plans (is_eager plans costs) (plain h) class x then Some (time plans costs h class x) else None

-- this action at its time, if it is allowed
abbrev pub enabled_action : List Plan → CostModel → List Timed → Class → OpId → Option Timed
enabled_action plans costs h class x =
    if allowed plans (is_eager plans costs) (plain h) class x then Some (at_its_time plans costs h class x) else None

module _ (plans : List Plan) (costs : CostModel) (h : List Timed) where
  -- no action of x may happen
  abbrev pub IsIdle : OpId → Type 0
  IsIdle x = (class : Class) → allowed plans (is_eager plans costs) (plain h) class x ≡ false

  -- the possible action of x, or `None` if it has none
  abbrev pub IsEnabledActionOf : OpId → Option Timed → Type 0
  IsEnabledActionOf x None = IsIdle x
  IsEnabledActionOf x (Some a) = (a.op ≡ x) × Possible plans costs h a
