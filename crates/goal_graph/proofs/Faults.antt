-- There is at most one first fault, and none if the plans are accepted.
use Rattle.std.proofs.Common.{◌≡◌, ltb, List, length, get_or, None, All, sym, ap, ◌∙◌, inl, inr}
use Rattle.std.proofs.lemmas.Option.{none-some, same_Some}
use Rattle.std.proofs.lemmas.List.Sums.{AllPass-from_list_all}
use Rattle.goal_graph.specs.declared.action.OpId.{OpId}
use Rattle.goal_graph.specs.declared.fault.PlanFault.{PlanFault}
use Rattle.goal_graph.specs.declared.fault.PlanFault.TheVariants.{Cycle}
use Rattle.goal_graph.specs.declared.plan.Need.{Need}
use Rattle.goal_graph.specs.Schedule.{Plan, needs, needed}
use Rattle.goal_graph.specs.Concerned.{waiting_on}
use Rattle.goal_graph.specs.Fault.{plain_fault, IsOp, IsFirstCycle, IsFault, IsAccepted}
use Rattle.goal_graph.proofs.Order.{before_cases}
use Rattle.goal_graph.proofs.Places.{no_plan, IsOp-located, IsOp-below}
use Rattle.goal_graph.proofs.Ranges.{needs-in_range, waiting_on-in_range}
use Rattle.std.proofs.lemmas.Bool.{ltb-true}

-- there is at most one first operation without a depth
pub IsFirstCycle-unique : (plans : List Plan) (x y : OpId) → IsFirstCycle plans x → IsFirstCycle plans y → x ≡ y
IsFirstCycle-unique plans x y a b = elim (before_cases x y) [
  | inl earlier ↦ absurd (a.cyclic (b.first x a.exists earlier))
  | inr rest ↦ elim rest [
    | inl later ↦ absurd (b.cyclic (a.first y b.exists later))
    | inr same ↦ same
  ]
]

pub IsFault-unique : (plans : List Plan) (f g : PlanFault) → IsFault plans f → IsFault plans g → f ≡ g
IsFault-unique plans f g (inl a) (inl b) = same_Some f g (sym a ∙ b)
IsFault-unique plans f g (inl a) (inr b) = absurd (none-some f (sym b.0 ∙ a))
IsFault-unique plans f g (inr a) (inl b) = absurd (none-some g (sym a.0 ∙ b))
IsFault-unique plans f g (inr a) (inr b) =
    a.1.named
    ∙ ap (λ (x : OpId). Cycle x.rank x.op) (IsFirstCycle-unique plans a.1.op b.1.op a.1.first b.1.first)
    ∙ sym b.1.named

-- accepted plans have no fault
pub IsAccepted-no_fault : (plans : List Plan) (f : PlanFault) → IsAccepted plans → IsFault plans f → ⊥
IsAccepted-no_fault plans f accepted (inl a) = none-some f (sym accepted.plain ∙ a)
IsAccepted-no_fault plans f accepted (inr a) = a.1.first.cyclic (accepted.depths a.1.op a.1.first.exists)

-- what an operation needs exists, and so does what needs it
pub needs-exist : (plans : List Plan) (x : OpId) → plain_fault plans ≡ None → IsOp plans x → All (λ (d : Need). IsOp plans (needed x d)) (needs plans x)
needs-exist plans x plain is_op k d inside =
    let located = IsOp-located plans x is_op in
    let below = ltb-true _ _ (AllPass-from_list_all (λ (w : Need). ltb w.op (length (get_or plans x.rank no_plan).ops)) (needs plans x) (needs-in_range plans plain x.rank located.rank_in x.op) k d inside) in
    IsOp-below plans (needed x (get_or (needs plans x) k d)) located.rank_in below

pub waiting_on-exist : (plans : List Plan) (x : OpId) → plain_fault plans ≡ None → IsOp plans x → All (λ (d : Need). IsOp plans (needed x d)) (waiting_on plans x)
waiting_on-exist plans x plain is_op k d inside =
    let located = IsOp-located plans x is_op in
    IsOp-below plans (needed x (get_or (waiting_on plans x) k d)) located.rank_in (waiting_on-in_range plans plain x.rank located.rank_in x.op k d inside)
