-- The queue of an engine over one step, said of views.
use Rattle.std.proofs.Common.{◌≡◌, ◌↔◌, ◌+◌, List, ◌∷◌, Some, ℕ, slice_get, refl, sym, ap, subst}
use Rattle.goal_graph.specs.declared.action.Timed.{Timed}
use Rattle.goal_graph.specs.Schedule.{Plan, operations}
use Rattle.goal_graph.specs.Fault.{IsOp}
use Rattle.sim_params.specs.Costs.{CostModel}
use Rattle.sim_params.specs.Run.{IsNext, IsRun, IsFinished}
use Rattle.sim_stations.specs.Stations.{Stationed, pair_of, IsLater}
use Rattle.sim_state.specs.Free.{side}
use Rattle.sim_params.specs.Times.{cpu}
use Rattle.sim_queue.specs.Map.{IsEmptyMap}
use Rattle.sim_state.specs.Engine.{RunSoFar}
use Rattle.sim_events.specs.Queue.{IsQueue, IsQueueBut, IsSettledBy, IsDueAfter}
use Rattle.sim_state.proofs.ForCallers.{possible_exists}
use Rattle.sim_events.proofs.Held.{held_times_are_later}
use Rattle.sim_events.proofs.Queue.{listed_op_exists, empty_queue_is_finished, finished_queue_is_empty}
use Rattle.sim_events.specs.Changes.{HaveChanged}
use Rattle.std.proofs.lemmas.List.Sums.{sum_by-cons}
use Rattle.sim_events.specs.Cost.{given_by, reads_of_run}
use Rattle.sim_events.proofs.Changes.{changed_after_action}
use Rattle.sim_events.proofs.Settled.{due_after_settled}

module _ {C : Type 0} (model : C → CostModel) where
  abbrev pub QueueAt : RunSoFar C → Stationed → Type 0
  QueueAt v queued = IsQueue v.plans (model v.costs) v.history queued

  abbrev pub RunAt : RunSoFar C → Type 0
  RunAt v = IsRun v.plans (model v.costs) v.history

  abbrev pub NextAt : RunSoFar C → Timed → Type 0
  NextAt v a = IsNext v.plans (model v.costs) v.history a

  -- after an action, the operations that it concerns are due
  pub concerned_are_due_after_action : (old new : RunSoFar C) (a : Timed) (queued settled : Stationed) (slot : ℕ) → new ≡ record { plans = old.plans; costs = old.costs; history = a ∷ old.history } → RunAt old → NextAt old a → QueueAt old queued → slice_get (operations old.plans) slot ≡ Some a.op → IsSettledBy (cpu new.plans (model new.costs) new.history a.op) (side new.plans (model new.costs) new.history a.op) slot a queued settled → IsQueueBut new.plans (model new.costs) new.history (IsDueAfter new.plans (model new.costs) new.history a) settled
  concerned_are_due_after_action old new a queued settled slot e run next q here by =
      let then : RunSoFar C = record { plans = old.plans; costs = old.costs; history = a ∷ old.history } in
      let by_then : IsSettledBy (cpu old.plans (model old.costs) (a ∷ old.history) a.op) (side old.plans (model old.costs) (a ∷ old.history) a.op) slot a queued settled = subst (λ (v : RunSoFar C). IsSettledBy (cpu v.plans (model v.costs) v.history a.op) (side v.plans (model v.costs) v.history a.op) slot a queued settled) e by in
      subst (λ (v : RunSoFar C). IsQueueBut v.plans (model v.costs) v.history (IsDueAfter v.plans (model v.costs) v.history a) settled) (sym e) (due_after_settled old.plans (model old.costs) old.history a run next.possible queued settled slot q here by_then)

  -- what it holds is free later
  pub held_resources_later_after_action : (old new : RunSoFar C) (a : Timed) (queued : Stationed) (slot : ℕ) → new ≡ record { plans = old.plans; costs = old.costs; history = a ∷ old.history } → NextAt old a → QueueAt old queued → slice_get (operations old.plans) slot ≡ Some a.op → IsLater queued.free (pair_of queued slot) (cpu new.plans (model new.costs) new.history a.op) (side new.plans (model new.costs) new.history a.op)
  held_resources_later_after_action old new a queued slot e next q here =
      let o = listed_op_exists old.plans (model old.costs) slot a.op here in
      subst (λ (v : RunSoFar C). IsLater queued.free (pair_of queued slot) (cpu v.plans (model v.costs) v.history a.op) (side v.plans (model v.costs) v.history a.op)) (sym e) (held_times_are_later old.plans (model old.costs) old.history a next.possible queued q.of_it slot here o.0 o.1 _ _ refl refl)

  -- the count of the changes of stations is kept
  pub changes_of_run_after_action : (old new : RunSoFar C) (a : Timed) (queued settled : Stationed) (slot : ℕ) → new ≡ record { plans = old.plans; costs = old.costs; history = a ∷ old.history } → QueueAt old queued → slice_get (operations old.plans) slot ≡ Some a.op → IsSettledBy (cpu new.plans (model new.costs) new.history a.op) (side new.plans (model new.costs) new.history a.op) slot a queued settled → (all : ℕ) → HaveChanged old.plans old.history queued all → HaveChanged new.plans new.history settled all
  changes_of_run_after_action old new a queued settled slot e q here by all changed =
      subst (λ (v : RunSoFar C). HaveChanged v.plans v.history settled all) (sym e) (changed_after_action old.plans (model old.costs) old.history a queued q.of_it slot here _ _ settled by all changed)

  -- with one more action a look is counted at the needs whose moment it may give
  pub looks_after_action : (old new : RunSoFar C) (a : Timed) → new ≡ record { plans = old.plans; costs = old.costs; history = a ∷ old.history } → reads_of_run new.plans new.history ≡ given_by old.plans a + reads_of_run old.plans old.history
  looks_after_action old new a e =
      subst (λ (v : RunSoFar C). reads_of_run v.plans v.history ≡ given_by old.plans a + reads_of_run old.plans old.history) (sym e) (sum_by-cons (given_by old.plans) a old.history)

  -- an action changes no plans
  pub plans_kept_by_action : (old new : RunSoFar C) (a : Timed) → new ≡ record { plans = old.plans; costs = old.costs; history = a ∷ old.history } → old.plans ≡ new.plans
  plans_kept_by_action old new a e = sym (ap (λ (v : RunSoFar C). v.plans) e)

  -- what happens next is an action of an operation
  pub next_is_of_an_op : (state : RunSoFar C) (a : Timed) → NextAt state a → IsOp state.plans a.op
  next_is_of_an_op state a next = possible_exists state.plans (model state.costs) state.history a next.possible

  pub op_exists_after_action : (old new : RunSoFar C) (a : Timed) → new ≡ record { plans = old.plans; costs = old.costs; history = a ∷ old.history } → NextAt old a → IsOp new.plans a.op
  op_exists_after_action old new a e next =
      subst (λ (ps : List Plan). IsOp ps a.op) (sym (ap (λ (v : RunSoFar C). v.plans) e)) (next_is_of_an_op old a next)

  -- nothing is possible exactly where no operation has a key
  pub finished_iff_queue_empty : (v w : RunSoFar C) (queued : Stationed) (T : Type 0) → v ≡ w → RunAt w → QueueAt v queued → (T ↔ IsEmptyMap queued.keys) → T ↔ IsFinished w.plans (model w.costs) w.history
  finished_iff_queue_empty v w queued T e run q empty =
      let queue : QueueAt w queued = subst (λ (u : RunSoFar C). QueueAt u queued) e q in
      (λ t. empty_queue_is_finished w.plans (model w.costs) w.history run queued queue (empty.0 t), λ f. empty.1 (finished_queue_is_empty w.plans (model w.costs) w.history queued queue f))
