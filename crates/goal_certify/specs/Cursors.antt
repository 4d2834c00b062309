-- How many needs of each operation have been found to be met, during a run or a walk.
use Rattle.std.specs.Prelude.{ℕ, ◌≡◌, ◌≤◌, Bool, true, List, length, take, Some, slice_get}
use Rattle.std.specs.List.{list_all}
use Rattle.goal_graph.specs.declared.action.OpId.{OpId}
use Rattle.goal_graph.specs.declared.plan.Need.{Need}
use Rattle.goal_graph.specs.Schedule.{Plan, needs, needed, operations}
use Rattle.goal_graph.specs.Action.{Act}
use Rattle.goal_graph.specs.Allowed.{is_met}
use Rattle.goal_certify.specs.declared.walk.cursor.Cursor.{Cursor}

module _ (plans : List Plan) (eager : OpId → Bool) (h : List Act) where
  -- whether the start or end that x waits for by this need has happened
  abbrev pub is_there : OpId → Need → Bool
  is_there x d = is_met plans eager h d.when (needed x d)

  -- the needs of x before the cursor are met
  pub record IsCursorOf (x : OpId) (c : Cursor) : Type 0 where
    pub within : c.at ≤ length (needs plans x)
    pub met : list_all (is_there x) (take c.at (needs plans x)) ≡ true

  -- there is a cursor for each operation, in their order
  pub record AreCursors (cursors : List Cursor) : Type 0 where
    pub each : length cursors ≡ length (operations plans)
    pub are : (slot : ℕ) (x : OpId) (c : Cursor) → slice_get (operations plans) slot ≡ Some x → slice_get cursors slot ≡ Some c → IsCursorOf x c
