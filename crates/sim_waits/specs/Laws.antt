-- The laws of reports. `laws_of_waits` ensures each.
use Rattle.std.specs.Prelude.{ℕ, ◌+◌, ◌≡◌, ◌≤◌, true, List}
use Rattle.goal_graph.specs.declared.action.OpId.{OpId}
use Rattle.goal_graph.specs.declared.action.Timed.{Timed}
use Rattle.goal_graph.specs.Schedule.{Plan}
use Rattle.sim_params.specs.Costs.{CostModel}
use Rattle.sim_params.specs.Times.{ready}
use Rattle.sim_params.specs.Run.{IsRun}
use Rattle.sim_waits.specs.Waits.{ended, last_time, wait}
use Rattle.sim_waits.specs.WaitsText.{IsWaitsText}

-- a run has one report
abbrev pub OneReport : Type 0
OneReport = (plans : List Plan) (costs : CostModel) (h : List Timed) (one other : List ℕ)
    → IsWaitsText plans costs h one
    → IsWaitsText plans costs h other
    → one ≡ other

-- an operation that has ended was ready when its last action happened, or before
abbrev pub ReadyIsNotLater : Type 0
ReadyIsNotLater = (plans : List Plan) (costs : CostModel) (h : List Timed) (x : OpId)
    → IsRun plans costs h
    → ended plans costs h x ≡ true
    → ready plans costs h x ≤ last_time plans costs h x

-- so its wait is the difference of the two times
abbrev pub WaitIsExact : Type 0
WaitIsExact = (plans : List Plan) (costs : CostModel) (h : List Timed) (x : OpId)
    → IsRun plans costs h
    → ended plans costs h x ≡ true
    → ready plans costs h x + wait plans costs h x ≡ last_time plans costs h x
