-- Properties of accepted plans.
use Rattle.std.proofs.Common.{◌≡◌, List, length, get_or, Some, None, true, refl, sym, ◌∙◌, subst}
use Rattle.std.proofs.lemmas.Option.{same_Some}
use Rattle.goal_graph.specs.declared.action.OpId.{OpId}
use Rattle.goal_graph.specs.declared.plan.Op.{Op}
use Rattle.goal_graph.specs.Schedule.{Plan, op_at}
use Rattle.goal_graph.specs.Fault.{IsOp, plain_fault, value_fits, has_peer}
use Rattle.goal_graph.proofs.Plain.{plain-op}
use Rattle.goal_graph.proofs.Places.{no_plan, IsOp-located, op_at-located}

-- an operation that a lookup finds exists
pub IsOp-from_op_at : (plans : List Plan) (x : OpId) (o : Op) → op_at plans x ≡ Some o → IsOp plans x
IsOp-from_op_at plans x o found = rw found refl

-- an operation is in its rank's list
op_at-read : (plans : List Plan) (x : OpId) (o : Op) (found : op_at plans x ≡ Some o) → o ≡ get_or (get_or plans x.rank no_plan).ops x.op o
op_at-read plans x o found =
    same_Some o (get_or (get_or plans x.rank no_plan).ops x.op o) (sym found ∙ op_at-located plans x (IsOp-located plans x (IsOp-from_op_at plans x o found)) no_plan o)

-- its value and its peer are in range
pub plain-op_at : (plans : List Plan) → plain_fault plans ≡ None → (x : OpId) (o : Op) → op_at plans x ≡ Some o → (value_fits o.kind o.nic ≡ true) × (has_peer (length plans) o.kind ≡ true)
plain-op_at plans plain x o found =
    let located = IsOp-located plans x (IsOp-from_op_at plans x o found) in
    let fits = plain-op plans plain x.rank no_plan located.rank_in x.op o (located.op_in no_plan) in
    subst (λ (q : Op). (value_fits q.kind q.nic ≡ true) × (has_peer (length plans) q.kind ≡ true)) (sym (op_at-read plans x o found)) fits
