-- The message of a send.
use Rattle.std.specs.Prelude.{ℕ, ◌≡◌, List, Some}
use Rattle.goal_graph.specs.declared.action.OpId.{OpId}
use Rattle.goal_graph.specs.declared.plan.Kind.TheVariants.{Send}
use Rattle.goal_graph.specs.Schedule.{Plan, kind_at}

-- m is a send of `bytes` bytes to the rank `to`, whatever its tag
pub record IsMessage (plans : List Plan) (m : OpId) (to bytes : ℕ) : Type 0 where
  pub tag : ℕ
  pub kind : kind_at plans m ≡ Some (Send bytes to tag)
