-- What holds of a queue of lower bounds: its least entry, if its time is right, is next.
use Rattle.std.proofs.Common.{◌≤◌, ◌≡◌, ◌⊎◌, List, inl, inr, sym, ap, subst, arith}
use Rattle.std.proofs.lemmas.Bool.{cases_eq}
use Rattle.goal_graph.specs.declared.action.OpId.{OpId}
use Rattle.goal_graph.specs.declared.action.Timed.{Timed}
use Rattle.goal_graph.specs.Schedule.{Plan}
use Rattle.sim_params.specs.Costs.{CostModel}
use Rattle.sim_params.specs.Times.{Possible}
use Rattle.goal_graph.specs.Order.{IsLess, key}
use Rattle.sim_params.specs.Run.{IsNext}
use Rattle.sim_params.specs.Laws.{HasBound, IsLeastIn}
use Rattle.goal_graph.proofs.ForCallers.{less_transitive, timed_from_parts}

-- the key of an entry for an action is at most that of the action
bound_before : (e b : Timed) → e.class ≡ b.class → e.op ≡ b.op → e.time ≤ b.time → (e ≡ b) ⊎ IsLess (key e) (key b)
bound_before e b c o le =
    elim (cases_eq e.time b.time) [ inl s ↦ inl (timed_from_parts e b s c (ap (λ (x : OpId). x.rank) o) (ap (λ (x : OpId). x.op) o)) | inr s ↦ inr (inl (omega arith)) ]

module _ (plans : List Plan) (costs : CostModel) (InQueue : Timed → Type 0) where
  pub least_is_next : (h : List Timed) (a : Timed) → ((b : Timed) → Possible plans costs h b → HasBound InQueue b) → IsLeastIn InQueue a → Possible plans costs h a → IsNext plans costs h a
  least_is_next h a bounds least p = record { possible = p; least = none }
    where
      none : (b : Timed) → Possible plans costs h b → ¬ (IsLess (key b) (key a))
      none b q before =
          let e = bounds b q in
          elim (bound_before e.entry b e.class e.op e.time) [ inl s ↦ least e.entry e.queued (subst (λ c. IsLess (key c) (key a)) (sym s) before) | inr s ↦ least e.entry e.queued (less_transitive (key e.entry) (key b) (key a) s before) ]
