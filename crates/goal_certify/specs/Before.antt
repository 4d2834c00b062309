-- Rows that say for each operation of a rank which operations end before it starts.
use Rattle.std.specs.Prelude.{ℕ, ◌≡◌, ◌<◌, Bool, true, false, List, length, slice_index_or, All, Contains}
use Rattle.goal_limits.specs.Limits.{certified_op_limit}
use Rattle.goal_graph.specs.declared.action.OpId.{OpId}
use Rattle.goal_graph.specs.declared.plan.Need.{Need}
use Rattle.goal_graph.specs.Schedule.{Plan, ops_at, needs}
use Rattle.goal_graph.specs.Search.{op_id}
use Rattle.goal_blocks.specs.Race.{EndsBefore}
use Rattle.goal_certify.specs.Rows.{has}

-- Rows are of operations of the rank. A number in a row is of an operation that ends before the row's operation starts.
-- A row that is done has all of these.
pub record AreRows (plans : List Plan) (rank : ℕ) (rows : List ℕ) (done : ℕ → Type 0) : Type 0 where
  pub low : (op k : ℕ) → k < certified_op_limit → has rows op k ≡ true → (op < length (ops_at plans rank)) × (k < length (ops_at plans rank))
  pub sound : (op k : ℕ) → k < certified_op_limit → has rows op k ≡ true → EndsBefore plans (op_id rank k) (op_id rank op)
  pub complete : (op k : ℕ) → k < certified_op_limit → done op → EndsBefore plans (op_id rank k) (op_id rank op) → has rows op k ≡ true

-- the row of each operation that x needs is done
abbrev pub HasNeedsDone : List Plan → List Bool → OpId → Type 0
HasNeedsDone plans done x = All (λ (d : Need). slice_index_or done d.op false ≡ true) (needs plans x)

-- x needs this operation, and the row of it is not done
pub record IsMissing (plans : List Plan) (done : List Bool) (x : OpId) (op : ℕ) : Type 0 where
  pub need : Need
  pub needed : Contains (needs plans x) need
  pub same : need.op ≡ op
  pub missing : slice_index_or done op false ≡ false
