-- The actions that may be next, as an engine knows them.
use Rattle.std.specs.Prelude.{ℕ, ◌≡◌, List, ◌∷◌, Option, Some, None}
use Rattle.goal_graph.specs.declared.action.Timed.{Timed}
use Rattle.goal_graph.specs.Schedule.{Plan}
use Rattle.sim_params.specs.Costs.{CostModel}
use Rattle.sim_params.specs.Run.{IsNext, IsFinished}
use Rattle.sim_stations.specs.Stations.{Stationed}
use Rattle.sim_state.specs.Engine.{RunSoFar}
use Rattle.sim_events.specs.Queue.{IsQueue}
use Rattle.sim_events.specs.Changes.{HaveChanged}

-- a queue, with how often its stations have switched; or nothing, if nothing is possible
abbrev pub IsPending : List Plan → CostModel → List Timed → Option Stationed → Type 0
IsPending plans costs h (Some queue) = IsQueue plans costs h queue × ((all : ℕ) × HaveChanged plans h queue all)
IsPending plans costs h None = IsFinished plans costs h

module _ {C : Type 0} (model : C → CostModel) where
  -- the queue of a state
  abbrev pub IsPendingOf : RunSoFar C → Stationed → Type 0
  IsPendingOf v queue = IsPending v.plans (model v.costs) v.history (Some queue)

  -- the next action has happened, or nothing is possible
  abbrev pub IsStepped : RunSoFar C → RunSoFar C → Option Timed → Type 0
  IsStepped old new None = IsFinished old.plans (model old.costs) old.history × (new ≡ old)
  IsStepped old new (Some a) =
      IsNext old.plans (model old.costs) old.history a
      × (new ≡ record { plans = old.plans; costs = old.costs; history = a ∷ old.history })
