-- The place of each operation in the order of all, and the tables kept by that place.
use Rattle.std.specs.Prelude.{◌≡◌, ℕ, ◌+◌, ◌≤◌, List, length, None, take, slice_index}
use Rattle.goal_graph.specs.declared.action.OpId.{OpId}
use Rattle.goal_graph.specs.declared.plan.Need.{Need}
use Rattle.goal_graph.specs.declared.rows.Listing.TheVariants.{Needs, WaitingOn}
use Rattle.goal_graph.specs.Schedule.{Plan}
use Rattle.goal_graph.specs.Fault.{plain_fault, op_count}
use Rattle.goal_graph.specs.Rows.{all_rows}

-- the place of an operation in the order of all, from 0
unfoldable pub index_of : List Plan → OpId → ℕ
index_of plans x = op_count (take x.rank plans) + x.op

-- the place of each rank's first operation, and at the end the number of all operations
pub record AreStarts (plans : List Plan) (starts : List ℕ) : Type 0 where
  pub one_each : length starts ≡ length plans + 1
  pub start : (rank : ℕ) → rank ≤ length plans → slice_index starts rank ≡ op_count (take rank plans)

-- plans without a fault other than a cycle, and the rows of their dependencies
pub record IsTabled (plans : List Plan) (starts : List ℕ) (needs waiting_on : List (List Need)) : Type 0 where
  pub plain : plain_fault plans ≡ None
  pub starts_are : AreStarts plans starts
  pub needs_are : needs ≡ all_rows Needs plans
  pub waiting_on_are : waiting_on ≡ all_rows WaitingOn plans
