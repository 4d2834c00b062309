-- The value of an engine in contracts, and what the engine returns.
use Rattle.std.specs.Prelude.{ℕ, ◌≡◌, ◌<◌, ◌≤◌, ◌^◌, List, Option, Some, None, if◌then◌else◌}
use Rattle.goal_graph.specs.declared.action.OpId.{OpId}
use Rattle.goal_graph.specs.declared.action.Timed.{Timed}
use Rattle.goal_graph.specs.Schedule.{Plan}
use Rattle.goal_graph.specs.Action.{plain}
use Rattle.goal_graph.specs.Allowed.{has_started, has_ended}
use Rattle.sim_params.specs.Costs.{CostModel, is_eager}
use Rattle.sim_params.specs.Times.{start, end}
use Rattle.sim_state.specs.declared.fault.EngineFault.{EngineFault}
use Rattle.sim_state.specs.declared.fault.EngineFault.TheVariants.{Budget, NoMemory}

-- the plans of its schedule, its costs, and the actions so far, the newest first
pub record RunSoFar (C : Type 0) : Type 0 where
  pub plans : List Plan
  pub costs : C
  pub history : List Timed

-- the schedule's time budget is over 2^63-1; this fault comes before `NoMemory`
abbrev pub IsEngineFault : ℕ → EngineFault → Type 0
IsEngineFault total (Budget sum) = (sum ≡ total) × (2 ^ 63 ≤ total)
IsEngineFault total NoMemory = total < 2 ^ 63

-- when x started, once it has
abbrev pub start_known : List Plan → CostModel → List Timed → OpId → Option ℕ
start_known plans costs h x = if has_started plans x (plain h) then Some (start plans costs h x) else None

-- when x ends, once that is known
abbrev pub end_known : List Plan → CostModel → List Timed → OpId → Option ℕ
end_known plans costs h x =
    if has_ended plans (is_eager plans costs) x (plain h) then Some (end plans costs h x) else None
