-- How long operations waited, in nanoseconds, and which waited longest.
use Rattle.std.specs.Prelude.{ℕ, ◌-◌, ◌≡◌, ◌<◌, ◌≤◌, ◌⊎◌, Bool, true, List, length, All, AllPairs, Contains, if◌then◌else◌}
use Rattle.goal_graph.specs.declared.action.OpId.{OpId}
use Rattle.goal_graph.specs.declared.action.Timed.{Timed}
use Rattle.goal_graph.specs.Schedule.{Plan}
use Rattle.goal_graph.specs.Action.{plain}
use Rattle.goal_graph.specs.Allowed.{has_ended}
use Rattle.goal_graph.specs.Fault.{IsOp}
use Rattle.goal_graph.specs.Order.{IsBefore}
use Rattle.sim_params.specs.Costs.{CostModel, is_eager}
use Rattle.sim_params.specs.Times.{since, ready}

module _ (plans : List Plan) (costs : CostModel) (h : List Timed) where
  -- x has an end
  abbrev pub ended : OpId → Bool
  ended x = has_ended plans (is_eager plans costs) x (plain h)

  -- the time of the last action of x, from which its end is computed
  abbrev pub last_time : OpId → ℕ
  last_time x = since (has_ended plans (is_eager plans costs) x) h

  -- the wait of an operation that has ended: the time of its last action less its ready time
  unfoldable pub wait : OpId → ℕ
  wait x = last_time x - ready plans costs h x

  -- the wait of an operation that has ended; 0 for any other
  abbrev pub wait_or_zero : OpId → ℕ
  wait_or_zero x = if ended x then wait x else 0

  -- x has ended, after a wait
  pub record HasWaited (x : OpId) : Type 0 where
    pub exists : IsOp plans x
    pub ended : ended x ≡ true
    pub waited : 0 < wait x

  -- x has the greater wait, or the same and is before y by rank and number
  abbrev pub GoesFirst : OpId → OpId → Type 0
  GoesFirst x y = (wait y < wait x) ⊎ ((wait y ≡ wait x) × IsBefore x y)

  -- The operations of the greatest waits above 0, in order: ten, or all if there are fewer. Each goes before those
  -- after it in the list, and before all that are left out.
  pub record AreGreatest (list : List OpId) : Type 0 where
    pub few : length list ≤ 10
    pub waited : All HasWaited list
    pub in_order : AllPairs GoesFirst list
    pub rest : (y : OpId) → HasWaited y → Contains list y ⊎ ((length list ≡ 10) × All (λ (x : OpId). GoesFirst x y) list)
