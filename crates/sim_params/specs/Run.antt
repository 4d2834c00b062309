-- The run: in each step the possible action with the least key happens.
use Rattle.std.specs.Prelude.{List, [], ◌∷◌}
use Rattle.goal_graph.specs.declared.action.Timed.{Timed}
use Rattle.goal_graph.specs.Schedule.{Plan}
use Rattle.goal_graph.specs.Order.{IsLess, key}
use Rattle.sim_params.specs.Costs.{CostModel}
use Rattle.sim_params.specs.Times.{Possible}

module _ (plans : List Plan) (costs : CostModel) where
  -- a is possible after h, and no possible action has a lesser key
  pub record IsNext (h : List Timed) (a : Timed) : Type 0 where
    pub possible : Possible plans costs h a
    pub least : (b : Timed) → Possible plans costs h b → ¬ (IsLess (key b) (key a))

  -- each action of the history was next after those before it
  abbrev pub IsRun : List Timed → Type 0
  IsRun [] = Unit {0}
  IsRun (a ∷ h) = IsRun h × IsNext h a

  -- nothing is possible after h
  abbrev pub IsFinished : List Timed → Type 0
  IsFinished h = (a : Timed) → ¬ (Possible plans costs h a)

  -- a complete run: no action is possible after it
  pub record IsCompleteRun (h : List Timed) : Type 0 where
    pub run : IsRun h
    pub finished : IsFinished h
