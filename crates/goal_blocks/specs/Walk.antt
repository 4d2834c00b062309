-- The walk: the run without times in which no send is eager and the order is fixed.
use Rattle.std.specs.Prelude.{◌≡◌, ◌≤◌, ◌⊎◌, Bool, true, false, List, [], ◌∷◌}
use Rattle.goal_graph.specs.declared.action.OpId.{OpId}
use Rattle.goal_graph.specs.Schedule.{Plan}
use Rattle.goal_graph.specs.Action.{Act, place}
use Rattle.goal_graph.specs.Allowed.{has_ended, allowed}
use Rattle.goal_graph.specs.Interleaving.{IsCompleteInterleaving}
use Rattle.goal_graph.specs.Fault.{IsOp}
use Rattle.goal_graph.specs.Order.{IsBefore}

abbrev pub no_send : OpId → Bool
no_send m = false

-- a comes no later than b in the order of the walk: by rank, then by number, then by class
abbrev pub ComesFirst : Act → Act → Type 0
ComesFirst a b = IsBefore a.op b.op ⊎ ((a.op ≡ b.op) × (place a.class ≤ place b.class))

-- each action is the first, in that order, of those that were allowed then
abbrev pub TakesFirst : List Plan → List Act → Type 0
TakesFirst plans [] = Unit {0}
TakesFirst plans (a ∷ h) =
    TakesFirst plans h × ((b : Act) → allowed plans no_send h b.class b.op ≡ true → ComesFirst a b)

-- A walk. Like every list of actions it is newest first, and no action is allowed after it.
pub record IsWalk (plans : List Plan) (w : List Act) : Type 0 where
  pub complete : IsCompleteInterleaving plans no_send w
  pub in_order : TakesFirst plans w

-- each operation has ended
abbrev pub AllEnd : List Plan → (OpId → Bool) → List Act → Type 0
AllEnd plans eager h = (x : OpId) → IsOp plans x → has_ended plans eager x h ≡ true

-- each operation has ended after the walk
pub record HasNoStall (plans : List Plan) : Type 0 where
  pub walk : List Act
  pub is_walk : IsWalk plans walk
  pub all_end : AllEnd plans no_send walk
