-- Operations exist.
use Rattle.std.proofs.Common.{◌≡◌, ◌<◌, true, List, [], Option, None, Some, length, get_or, is_some, slice_get, unwrap_or, option_and_then, refl, sym, ap, subst}
use Rattle.std.specs.Option.{option_map}
use Rattle.std.proofs.lemmas.Option.{slice_get_within, slice_get-get_or, get_or_from_slice_get}
use Rattle.goal_blocks.specs.Slots.{notes_at}
use Rattle.goal_graph.specs.declared.action.OpId.{OpId}
use Rattle.goal_graph.specs.declared.action.Class.{Class}
use Rattle.goal_graph.specs.Schedule.{Plan, op_at, operations}
use Rattle.goal_graph.specs.declared.plan.Op.{Op}
use Rattle.goal_graph.specs.Action.{Act}
use Rattle.goal_graph.specs.Fault.{IsOp}
use Rattle.goal_graph.proofs.ForCallers.{listed_op, allowed_listed}
use Rattle.goal_blocks.specs.Walk.{no_send}
use Rattle.goal_certify.specs.WalkQueue.{may_act}

-- an operation in the list of operations exists
pub listed_exists : (plans : List Plan) (i : _) (x : OpId) → slice_get (operations plans) i ≡ Some x → IsOp plans x
listed_exists plans i x e =
    let a = listed_op plans x (i, slice_get_within (operations plans) i x e, get_or_from_slice_get (operations plans) i x x e) in
    subst (λ o. is_some o ≡ true) (sym a.is) refl

-- an action that may happen is one of an operation
pub allowed_exists : (plans : List Plan) (h : List Act) (c : Class) (x : OpId) → may_act plans h c x ≡ true → IsOp plans x
allowed_exists plans h c x e =
    let a = listed_op plans x (allowed_listed plans no_send h c x e) in
    subst (λ o. is_some o ≡ true) (sym a.is) refl

-- the operation that exists
pub op_at_is_some : (plans : List Plan) (x : OpId) → IsOp plans x → (o : Op) × (op_at plans x ≡ Some o)
op_at_is_some plans x e = go (op_at plans x) refl e
  where
    go : (q : Option Op) → op_at plans x ≡ q → is_some q ≡ true → (o : Op) × (op_at plans x ≡ Some o)
    go None s f = absurd (cc)
    go (Some o) s f = (o, s)

-- the plan of the rank of an operation
pub rank_below : (plans : List Plan) (x : OpId) → IsOp plans x → x.rank < length plans
unfolding op_at
rank_below plans x is = go (slice_get plans x.rank) refl is
  where
    go : (o : Option Plan) → slice_get plans x.rank ≡ o → is_some (option_and_then (λ (p : Plan). slice_get p.ops x.op) o) ≡ true → x.rank < length plans
    go None e some = absurd (cc)
    go (Some p) e some = slice_get_within plans x.rank p e

pub notes_there : (plans : List Plan) (x : OpId) → IsOp plans x → (d : Plan) → notes_at plans x.rank ≡ (get_or plans x.rank d).notes
unfolding notes_at
notes_there plans x is d =
    ap (λ (o : Option Plan). unwrap_or (option_map (λ (p : Plan). p.notes) o) []) (slice_get-get_or plans x.rank d (rank_below plans x is))
