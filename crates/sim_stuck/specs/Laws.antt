-- The laws of the list of stuck operations. `explain` ensures each.
use Rattle.std.specs.Prelude.{◌≡◌, ◌⊎◌, ◌↔◌, true, List, map, Contains, AllPairs}
use Rattle.goal_graph.specs.declared.action.OpId.{OpId}
use Rattle.goal_graph.specs.declared.action.Timed.{Timed}
use Rattle.goal_graph.specs.declared.action.Stuck.{Stuck}
use Rattle.goal_graph.specs.declared.action.Why.TheVariants.{Op, Partner, Alone}
use Rattle.goal_graph.specs.Schedule.{Plan}
use Rattle.goal_graph.specs.Action.{plain}
use Rattle.goal_graph.specs.Fault.{IsOp}
use Rattle.goal_graph.specs.Allowed.{has_started}
use Rattle.goal_graph.specs.Order.{IsBefore}
use Rattle.goal_graph.specs.Laws.{IsTaken}
use Rattle.sim_params.specs.Costs.{CostModel, is_eager}
use Rattle.sim_params.specs.Stuck.{are_fit}
use Rattle.sim_params.specs.Laws.{IsStuck}

-- the operations of a list
abbrev pub ops_of : List Stuck → List OpId
ops_of list = map (λ (s : Stuck). s.op) list

-- they are ordered by rank and number, each once
abbrev pub IsInOrder : List Stuck → Type 0
IsInOrder list = AllPairs IsBefore (ops_of list)

-- an operation that a reason names is in the list
abbrev pub NamesListed : List Stuck → Type 0
NamesListed list =
    (s : Stuck) (y : OpId) → Contains list s → ((s.why ≡ Op y) ⊎ (s.why ≡ Partner y)) → Contains (ops_of list) y

module _ (plans : List Plan) (costs : CostModel) (h : List Timed) where
  -- the list has the operations without an end, and no others
  abbrev pub ListsStuck : List Stuck → Type 0
  ListsStuck list = (x : OpId) → Contains (ops_of list) x ↔ (IsOp plans x × IsStuck plans (is_eager plans costs) (plain h) x)

  -- each operation that fits one that is alone has started, and is paired with another
  abbrev pub AloneAreAlone : List Stuck → Type 0
  AloneAreAlone list =
      (s : Stuck) (y : OpId) → Contains list s → s.why ≡ Alone → are_fit plans (is_eager plans costs) s.op y ≡ true
      → (has_started plans y (plain h) ≡ true) × IsTaken plans (plain h) y s.op
