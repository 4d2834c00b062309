-- The queue after the action that was next.
use Rattle.std.proofs.Common.{◌≡◌, ◌<◌, ◌≤◌, ◌+◌, ◌*◌, ℕ, ◌∷◌, List, length, Option, Some, None, is_some, slice_get, refl, ap, ◌∙◌, inl, inr}
use Rattle.std.proofs.lemmas.Bool.{cases_Bool}
use Rattle.std.proofs.lemmas.List.{get_or-set_other}
use Rattle.std.specs.Option.{option_map}
use Rattle.goal_graph.specs.declared.action.Timed.{Timed}
use Rattle.goal_graph.specs.Schedule.{Plan, operations}
use Rattle.sim_params.specs.Costs.{CostModel}
use Rattle.sim_params.specs.Times.{cpu, Possible}
use Rattle.sim_params.specs.Run.{IsRun}
use Rattle.sim_queue.specs.Map.{key_at}
use Rattle.sim_stations.specs.Stations.{Stationed, holds_cpu, when_free, pair_of}
use Rattle.sim_state.specs.Free.{side}
use Rattle.sim_events.specs.Comparisons.{spent}
use Rattle.sim_events.specs.Queue.{IsQueue, IsQueueBut, IsSettledBy, IsDueAfter}
use Rattle.sim_events.proofs.Costs.{spent_after_key_removed}
use Rattle.sim_events.proofs.Queue.{queue_after, settled_at_once, settled_held}

module _ (plans : List Plan) (costs : CostModel) (h : List Timed) (a : Timed) (run : IsRun plans costs h) (possible : Possible plans costs h a) (old new : Stationed) (slot : ℕ) (q : IsQueue plans costs h old) (here : slice_get (operations plans) slot ≡ Some a.op) where
  -- those are due then that the action concerns
  pub due_after_settled : IsSettledBy (cpu plans costs (a ∷ h) a.op) (side plans costs (a ∷ h) a.op) slot a old new → IsQueueBut plans costs (a ∷ h) (IsDueAfter plans costs (a ∷ h) a) new
  due_after_settled s = queue_after plans costs h a run possible old new slot q here (elim (cases_Bool (holds_cpu a.class)) [
    | inl w ↦ settled_held plans costs h a run possible old new slot _ _ q here refl refl s.each s.gone (s.raised w) s.stations s.pairs (s.free w)
    | inr w ↦ settled_at_once plans costs h a run possible old new slot q here w (s.same w) s.stations s.pairs (s.same_free w)
  ])

-- what was paid for its key is free then
module _ (k c s slot : ℕ) (a : Timed) (old new : Stationed) (settled : IsSettledBy c s slot a old new) (has : key_at old.keys slot ≡ Some a) (within : slot < length old.keys) where
  mapped_is_some : (f : Timed → Timed) (o : Option Timed) → is_some (option_map f o) ≡ is_some o
  mapped_is_some f None = refl
  mapped_is_some f (Some k) = refl

  pub spent_settled : spent k old ≤ spent k new + (10 * k + 16)
  spent_settled = spent_after_key_removed k old new slot settled.each within (λ i d. elim (cases_Bool (holds_cpu a.class)) [
    | inl w ↦ ap is_some (settled.raised w i d) ∙ mapped_is_some (when_free new.free (pair_of old i)) (key_at old.keys i)
    | inr w ↦ ap is_some (ap (λ ks. key_at ks i) (settled.same w) ∙ get_or-set_other old.keys slot i None None d)
  ]) a has
