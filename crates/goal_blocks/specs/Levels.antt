-- Levels: a number for each operation, which shows that none waits for ever.
use Rattle.std.specs.Prelude.{ℕ, ◌≡◌, ◌<◌, Bool, List, Contains}
use Rattle.goal_graph.specs.declared.action.OpId.{OpId}
use Rattle.goal_graph.specs.declared.plan.Need.{Need}
use Rattle.goal_graph.specs.Schedule.{Plan, needs, needed}
use Rattle.goal_graph.specs.Action.{Act}
use Rattle.goal_graph.specs.Interleaving.{IsCompleteInterleaving}
use Rattle.goal_graph.specs.Fault.{IsOp}
use Rattle.goal_blocks.specs.Channels.{AreOfOneChannel, HasNoWildcard, HasNoDoubleChannel, HasNoUnpaired}
use Rattle.goal_blocks.specs.Walk.{AllEnd}

-- what an operation needs exists and has a lower level; a send and the receive of its channel have the same level
pub record AreLevels (plans : List Plan) (level : OpId → ℕ) : Type 0 where
  pub lower : (x : OpId) (d : Need) → IsOp plans x → Contains (needs plans x) d → IsOp plans (needed x d) × (level (needed x d) < level x)
  pub same : (m x : OpId) → AreOfOneChannel plans m x → level m ≡ level x

-- The law: if each send has one receive and each receive one send, and there are levels, each operation ends in each
-- complete interleaving, whichever sends are eager.
abbrev pub LevelsEnd : Type 0
LevelsEnd = (plans : List Plan) (level : OpId → ℕ) (eager : OpId → Bool) (h : List Act)
    → HasNoWildcard plans
    → HasNoDoubleChannel plans
    → HasNoUnpaired plans
    → AreLevels plans level
    → IsCompleteInterleaving plans eager h
    → AllEnd plans eager h
