-- When all that an operation uses is free: its cpu and, if it sends or receives, that side of its NIC.
use Rattle.std.specs.Prelude.{ℕ, ◌≡◌, List, Option, Some, None, max, slice_get}
use Rattle.goal_graph.specs.declared.action.OpId.{OpId}
use Rattle.goal_graph.specs.declared.action.Timed.{Timed}
use Rattle.goal_graph.specs.declared.plan.Kind.{Kind}
use Rattle.goal_graph.specs.declared.plan.Kind.TheVariants.{Calc, Send, Recv}
use Rattle.goal_graph.specs.Schedule.{Plan, kind_at, operations}
use Rattle.sim_params.specs.Costs.{CostModel}
use Rattle.sim_params.specs.Times.{cpu, tx, rx}
use Rattle.sim_resources.specs.declared.pair.Pair.{Pair}
use Rattle.sim_resources.specs.ByNumber.{HasTimes, pair_in}

module _ (plans : List Plan) where
  abbrev pub free_of : CostModel → List Timed → OpId → Option Kind → ℕ
  free_of costs h x None = 0
  free_of costs h x (Some (Calc nanos)) = cpu plans costs h x
  free_of costs h x (Some (Send bytes to tag)) = max (cpu plans costs h x) (tx plans costs h x)
  free_of costs h x (Some (Recv room from tag)) = max (cpu plans costs h x) (rx plans costs h x)

  abbrev pub free : CostModel → List Timed → OpId → ℕ
  free costs h x = free_of costs h x (kind_at plans x)

  -- when this side of its NIC is free, or the cpu of an operation that uses no NIC
  abbrev pub side_of : CostModel → List Timed → OpId → Option Kind → ℕ
  side_of costs h x None = 0
  side_of costs h x (Some (Calc nanos)) = cpu plans costs h x
  side_of costs h x (Some (Send bytes to tag)) = tx plans costs h x
  side_of costs h x (Some (Recv room from tag)) = rx plans costs h x

  abbrev pub side : CostModel → List Timed → OpId → ℕ
  side costs h x = side_of costs h x (kind_at plans x)

  -- the times are, for each operation, those at which its cpu and its side are free
  abbrev pub AreFreeByNumber : CostModel → List Timed → List ℕ → List Pair → List ℕ → Type 0
  AreFreeByNumber costs h numbers pairs times =
      (slot : ℕ) (x : OpId) → slice_get (operations plans) slot ≡ Some x → HasTimes times (pair_in numbers pairs slot) (cpu plans costs h x) (side costs h x)
