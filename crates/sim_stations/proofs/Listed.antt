-- Listed operations exist.
use Rattle.std.proofs.Common.{◌≡◌, ℕ, true, List, is_some, slice_get, Some, refl, sym, subst}
use Rattle.std.proofs.lemmas.Option.{slice_get_within, get_or_from_slice_get}
use Rattle.goal_graph.specs.declared.action.OpId.{OpId}
use Rattle.goal_graph.specs.Schedule.{Plan, operations}
use Rattle.goal_graph.specs.Fault.{IsOp}
use Rattle.goal_graph.proofs.ForCallers.{listed_op}

pub listed_exists : (plans : List Plan) (i : ℕ) (x : OpId) → slice_get (operations plans) i ≡ Some x → IsOp plans x
listed_exists plans i x e =
    let a = listed_op plans x (i, slice_get_within (operations plans) i x e, get_or_from_slice_get (operations plans) i x x e) in
    subst (λ o. is_some o ≡ true) (sym a.is) refl
