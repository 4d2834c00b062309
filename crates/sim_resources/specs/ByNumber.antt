-- When resources are free, by their numbers.
use Rattle.std.specs.Prelude.{ℕ, ◌≡◌, List, Option, Some, None, slice_get, slice_index, slice_index_or}
use Rattle.goal_graph.specs.declared.action.OpId.{OpId}
use Rattle.goal_graph.specs.declared.plan.Kind.{Kind}
use Rattle.goal_graph.specs.declared.plan.Kind.TheVariants.{Calc, Send, Recv}
use Rattle.goal_graph.specs.Schedule.{kind_at, operations}
use Rattle.sim_resources.specs.declared.pair.Pair.{Pair}
use Rattle.sim_resources.specs.FreeTimes.{Holds, cpu_free, tx_free, rx_free}

-- when the side of its NIC that an operation uses is free, or its cpu if it uses no NIC
abbrev pub side_free_of : Holds → OpId → Option Kind → ℕ
side_free_of r x None = 0
side_free_of r x (Some (Calc nanos)) = cpu_free r x
side_free_of r x (Some (Send bytes to tag)) = tx_free r x
side_free_of r x (Some (Recv room from tag)) = rx_free r x

abbrev pub side_free : Holds → OpId → ℕ
side_free r x = side_free_of r x (kind_at r.plans x)

-- these are the times of the two resources of a pair
pub record HasTimes (times : List ℕ) (p : Pair) (cpu side : ℕ) : Type 0 where
  pub cpu_time : slice_get times p.cpu ≡ Some cpu
  pub side_time : slice_get times p.side ≡ Some side

-- the numbers of the two resources of an operation, by its place in the order of all
abbrev pub pair_in : List ℕ → List Pair → ℕ → Pair
pair_in numbers pairs slot = slice_index_or pairs (slice_index numbers slot) (record { cpu = 0; side = 0 })

-- the times are, for each operation, those at which its two resources are free
abbrev pub AreTimesByNumber : Holds → List ℕ → List Pair → List ℕ → Type 0
AreTimesByNumber r numbers pairs times =
    (slot : ℕ) (x : OpId) → slice_get (operations r.plans) slot ≡ Some x → HasTimes times (pair_in numbers pairs slot) (cpu_free r x) (side_free r x)
