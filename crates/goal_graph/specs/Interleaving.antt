-- Interleavings: lists of actions without times, in which each action was allowed after those before it.
use Rattle.std.specs.Prelude.{◌≡◌, Bool, true, false, List, [], ◌∷◌}
use Rattle.goal_graph.specs.declared.action.OpId.{OpId}
use Rattle.goal_graph.specs.Schedule.{Plan}
use Rattle.goal_graph.specs.Action.{Act}
use Rattle.goal_graph.specs.Allowed.{allowed}

abbrev pub IsInterleaving : List Plan → (OpId → Bool) → List Act → Type 0
IsInterleaving plans eager [] = Unit {0}
IsInterleaving plans eager (a ∷ h) =
    IsInterleaving plans eager h × (allowed plans eager h a.class a.op ≡ true)

-- a complete interleaving: no action is allowed after it
pub record IsCompleteInterleaving (plans : List Plan) (eager : OpId → Bool) (h : List Act) : Type 0 where
  pub each : IsInterleaving plans eager h
  pub none_left : (a : Act) → allowed plans eager h a.class a.op ≡ false
