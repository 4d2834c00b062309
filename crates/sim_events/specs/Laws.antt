-- The cost of a run in which the operations of each rank share one cpu, or their messages one NIC.
use Rattle.std.specs.Prelude.{ℕ, ◌≡◌, ◌⊎◌, ◌≤◌, ◌+◌, ◌*◌, false, List, Some, length}
use Rattle.goal_graph.specs.declared.action.OpId.{OpId}
use Rattle.goal_graph.specs.declared.action.Timed.{Timed}
use Rattle.goal_graph.specs.declared.plan.Op.{Op}
use Rattle.goal_graph.specs.Fault.{is_calc}
use Rattle.goal_graph.specs.Schedule.{Plan, op_at, operations}
use Rattle.sim_params.specs.Costs.{CostModel}
use Rattle.sim_params.specs.Run.{IsRun}
use Rattle.sim_events.specs.Cost.{most_moves, cost_of_start, cost_of_run}

-- all operations of a rank use one cpu
abbrev pub HasOneCpu : List Plan → ℕ → Type 0
HasOneCpu plans rank =
    (x y : OpId) (o p : Op) → x.rank ≡ rank → y.rank ≡ rank → op_at plans x ≡ Some o → op_at plans y ≡ Some p → o.cpu ≡ p.cpu

-- all messages of a rank, its sends and receives, use one NIC; calcs use none
abbrev pub HasOneNic : List Plan → ℕ → Type 0
HasOneNic plans rank =
    (x y : OpId) (o p : Op)
    → x.rank ≡ rank → y.rank ≡ rank → op_at plans x ≡ Some o → op_at plans y ≡ Some p
    → is_calc o.kind ≡ false → is_calc p.kind ≡ false
    → o.nic ≡ p.nic

-- on each rank all operations use one cpu, or all messages one NIC
abbrev pub IsOneWide : List Plan → Type 0
IsOneWide plans = (rank : ℕ) → HasOneCpu plans rank ⊎ HasOneNic plans rank

-- then stations switch at most once per operation, and six times per action
abbrev pub MovesAreFew : Type 0
MovesAreFew = (plans : List Plan) (h : List Timed) → IsOneWide plans → most_moves plans h ≤ length (operations plans) + 6 * length h

-- and a run of n operations, among 2^k, compares keys at most n (216k + 388) + 3 times
abbrev pub RunsAreCheap : Type 0
RunsAreCheap =
    (plans : List Plan) (costs : CostModel) (h : List Timed) (k : ℕ)
    → IsOneWide plans → IsRun plans costs h
    → cost_of_start k plans + cost_of_run k plans h ≤ length (operations plans) * (216 * k + 388) + 3
