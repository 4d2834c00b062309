-- Races: two operations of one rank, neither ending before the other, though one writes a slot that the other touches.
use Rattle.std.specs.Prelude.{ℕ, ◌≡◌, ◌≢◌, ◌⊎◌, List, Contains}
use Rattle.goal_graph.specs.declared.action.OpId.{OpId}
use Rattle.goal_graph.specs.declared.plan.Need.{Need}
use Rattle.goal_graph.specs.declared.plan.When.TheVariants.{AfterEnd}
use Rattle.goal_graph.specs.Schedule.{Plan, needs, needed}
use Rattle.goal_blocks.specs.Slots.{written, touched}

-- z is y, or y needs it, directly or through other operations, by needs of either kind
pub data Reaches (plans : List Plan) : OpId → OpId → Type 0 where
  here : {y : OpId} → Reaches plans y y
  through : {y z : OpId} → (d : Need) → Contains (needs plans y) d → Reaches plans (needed y d) z → Reaches plans y z

-- x ends before y starts: y, or an operation that y reaches, needs the end of x
pub record EndsBefore (plans : List Plan) (x y : OpId) : Type 0 where
  pub by : OpId
  pub reached : Reaches plans y by
  pub need : Need
  pub is_need : Contains (needs plans by) need
  pub at_end : need.when ≡ AfterEnd
  pub names : needed by need ≡ x

-- two operations of a rank conflict: one writes a slot that the other touches
pub record Conflict (plans : List Plan) (x y : OpId) : Type 0 where
  pub one_rank : x.rank ≡ y.rank
  pub two : x ≢ y
  pub slot : ℕ
  pub is_touched : Contains (touched plans x) slot
  pub is_written : Contains (written plans y) slot

-- if two operations conflict, one ends before the other starts
abbrev pub HasNoRace : List Plan → Type 0
HasNoRace plans = (x y : OpId) → Conflict plans x y → EndsBefore plans x y ⊎ EndsBefore plans y x
