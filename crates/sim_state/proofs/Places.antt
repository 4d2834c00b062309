-- What is listed, and what is possible, exists.
use Rattle.std.proofs.Common.{◌≡◌, ℕ, ◌<◌, true, List, Option, None, Some, is_some, option_and_then, length, get_or, slice_get, refl, sym, ap, subst, arith, inl, inr}
use Rattle.std.specs.List.{sum_by}
use Rattle.std.proofs.lemmas.List.Sums.{get_or-le-sum_by}
use Rattle.std.proofs.lemmas.Option.{slice_get_within, slice_get_cases, get_or_from_slice_get}
use Rattle.goal_graph.specs.declared.action.OpId.{OpId}
use Rattle.goal_graph.specs.declared.action.Timed.{Timed}
use Rattle.goal_graph.specs.Action.{plain}
use Rattle.goal_graph.specs.Schedule.{Plan, operations, op_at}
use Rattle.goal_graph.specs.Fault.{IsOp, op_count}
use Rattle.goal_graph.specs.Laws.{IsCalc}
use Rattle.goal_graph.proofs.ForCallers.{listed_op, kind_listed, allowed_listed}
use Rattle.sim_params.specs.Costs.{CostModel, is_eager}
use Rattle.sim_params.specs.Times.{Possible}

-- an operation in the list of operations exists
pub listed_exists : (plans : List Plan) (i : ℕ) (x : OpId) → slice_get (operations plans) i ≡ Some x → IsOp plans x
listed_exists plans i x e =
    let a = listed_op plans x (i, slice_get_within (operations plans) i x e, get_or_from_slice_get (operations plans) i x x e) in
    subst (λ o. is_some o ≡ true) (sym a.is) refl

-- an operation is of a rank that there is
pub rank_exists : (plans : List Plan) (x : OpId) → IsOp plans x → x.rank < length plans
unfolding op_at
rank_exists plans x is_op = go (slice_get plans x.rank) refl is_op
  where
    go : (q : Option Plan) → slice_get plans x.rank ≡ q → is_some (option_and_then (λ (p : Plan). slice_get p.ops x.op) q) ≡ true → x.rank < length plans
    go None e h = absurd (cc h)
    go (Some p) e h = slice_get_within plans x.rank p e

-- its number is below the number of all operations
pub number_below : (plans : List Plan) (x : OpId) → IsOp plans x → x.op < op_count plans
unfolding op_at op_count
number_below plans x is_op = go (slice_get plans x.rank) refl is_op
  where
    go : (q : Option Plan) → slice_get plans x.rank ≡ q → is_some (option_and_then (λ (p : Plan). slice_get p.ops x.op) q) ≡ true → x.op < sum_by (λ (p : Plan). length p.ops) plans
    go None e h = absurd (cc h)
    go (Some p) e h = elim ((slice_get_cases p.ops x.op).1) [
      | inl o ↦ (let size : length (get_or plans x.rank p).ops ≡ length p.ops = ap (λ (q : Plan). length q.ops) (get_or_from_slice_get plans x.rank p p e) in
          omega (arith, o.1, size, get_or-le-sum_by (λ (q : Plan). length q.ops) plans x.rank p (slice_get_within plans x.rank p e)))
      | inr n ↦ absurd (cc (h, n.1))
    ]

-- a calc, a send and a receive exist
pub calc_is_op : (plans : List Plan) (x : OpId) → IsCalc plans x → IsOp plans x
calc_is_op plans x k =
    let a = listed_op plans x (kind_listed plans x _ k.kind) in subst (λ o. is_some o ≡ true) (sym a.is) refl

-- what is possible is an action of an operation
pub possible_exists : (plans : List Plan) (costs : CostModel) (h : List Timed) (b : Timed) → Possible plans costs h b → IsOp plans b.op
possible_exists plans costs h b p =
    let a = listed_op plans b.op (allowed_listed plans (is_eager plans costs) (plain h) b.class b.op p.allowed) in
    subst (λ o. is_some o ≡ true) (sym a.is) refl
