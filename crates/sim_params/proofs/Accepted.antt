-- Properties of an accepted schedule: few ranks and operations, and every number within its limit.
use Rattle.std.proofs.Common.{◌≡◌, ℕ, zero, suc, ◌+◌, ◌^◌, ◌≤◌, ◌==◌, Bool, true, false, List, [], ◌∷◌, length, Option, Some, None, slice_get, option_and_then, if◌then◌else◌, refl, subst, arith}
use Rattle.std.proofs.lemmas.Option.{same_Some, slice_get_within, get_or_from_slice_get}
use Rattle.std.proofs.lemmas.List.Sums.{get_or-le-sum_by}
use Rattle.goal_graph.specs.declared.action.OpId.{OpId}
use Rattle.goal_graph.specs.declared.fault.PlanFault.{PlanFault}
use Rattle.goal_graph.specs.declared.fault.PlanFault.TheVariants.{Count, Value, Peer}
use Rattle.goal_limits.specs.declared.limits.TheConstants.{MAX_RANKS, MAX_OPS}
use Rattle.goal_graph.specs.declared.plan.Op.{Op}
use Rattle.goal_graph.specs.Schedule.{Plan, op_at}
use Rattle.goal_graph.proofs.ForCallers.{count_over-none, option_or-none}
use Rattle.goal_graph.specs.Fault.{op_count, count_over, count_fault, value_fits, has_peer, op_fault, first_fault, rank_fault, plain_fault, IsAccepted}

-- if no item has a fault, none at any place has
pub no_fault_at : {A : Type 0} (fault : ℕ → A → Option PlanFault) (n : ℕ) (xs : List A) (i : ℕ) (x : A) → first_fault fault n xs ≡ None → slice_get xs i ≡ Some x → fault (n + i) x ≡ None
unfolding first_fault
no_fault_at fault n [] i x e f = absurd (cc)
no_fault_at fault n (y ∷ ys) zero x e f =
    subst (λ m. fault m x ≡ None) (omega arith) (subst (λ z. fault n z ≡ None) (same_Some y x f) (option_or-none _ _ e).0)
no_fault_at fault n (y ∷ ys) (suc i) x e f =
    subst (λ m. fault m x ≡ None) (omega arith) (no_fault_at fault (n + 1) ys i x (option_or-none _ _ e).1 f)

module _ (plans : List Plan) (accepted : IsAccepted plans) where
  no_rank_fault : first_fault (rank_fault (length plans)) 0 plans ≡ None
  unfolding plain_fault
  no_rank_fault = (option_or-none (count_fault plans) _ accepted.plain).1

  rank_has_no_fault : (rank : ℕ) (p : Plan) → slice_get plans rank ≡ Some p → rank_fault (length plans) rank p ≡ None
  rank_has_no_fault rank p e =
      subst (λ r. rank_fault (length plans) r p ≡ None) (omega arith) (no_fault_at (rank_fault (length plans)) 0 plans rank p no_rank_fault e)

  -- no operation has a fault
  op_has_no_fault : (rank op : ℕ) (p : Plan) (o : Op) → slice_get plans rank ≡ Some p → slice_get p.ops op ≡ Some o → op_fault (length plans) rank op o ≡ None
  unfolding rank_fault
  op_has_no_fault rank op p o e f =
      let none = (option_or-none (first_fault (op_fault (length plans) rank) 0 p.ops) _ (rank_has_no_fault rank p e)).0 in
      subst (λ i. op_fault (length plans) rank i o ≡ None) (omega arith) (no_fault_at (op_fault (length plans) rank) 0 p.ops op o none f)

  -- its size or duration is within its limit
  pub value_within : (x : OpId) (o : Op) → op_at plans x ≡ Some o → value_fits o.kind o.nic ≡ true
  unfolding op_at
  value_within x o e = go (slice_get plans x.rank) refl e
    where
      kept : (b : Bool) → value_fits o.kind o.nic ≡ b → (if b then (if has_peer (length plans) o.kind then None else Some (Peer x.rank x.op)) else Some (Value x.rank x.op)) ≡ None → value_fits o.kind o.nic ≡ true
      kept true t f = t
      kept false t f = absurd (cc)

      go : (q : Option Plan) → slice_get plans x.rank ≡ q → option_and_then (λ (p : Plan). slice_get p.ops x.op) q ≡ Some o → value_fits o.kind o.nic ≡ true
      go None t f = absurd (cc)
      go (Some p) t f = kept (value_fits o.kind o.nic) refl (op_has_no_fault x.rank x.op p o t f)
