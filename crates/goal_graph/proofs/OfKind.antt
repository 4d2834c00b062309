-- The operation at a place, by its number or by its kind.
use Rattle.std.proofs.Common.{◌≡◌, ℕ, ◌<◌, ◌≤◌, IsTrue, true, leb-true, List, [], ◌∷◌, length, slice_get, Option, Some, None, is_some, unwrap_or, refl, ap, sym, ◌∙◌, arith}
use Rattle.std.proofs.lemmas.Option.{same_Some, slice_get-get_or}
use Rattle.std.specs.Option.{option_map, option_and_then}
use Rattle.goal_graph.specs.declared.action.OpId.{OpId}
use Rattle.goal_graph.specs.declared.plan.Op.{Op}
use Rattle.goal_graph.specs.declared.plan.Kind.{Kind}
use Rattle.goal_graph.specs.Schedule.{Plan, op_at, ops_at, kind_at, IsSend, IsReceive}
use Rattle.goal_limits.specs.declared.limits.TheConstants.{MAX_BYTES}
use Rattle.goal_graph.specs.declared.plan.Kind.TheVariants.{Send}
use Rattle.goal_graph.specs.Fault.{IsOp, value_fits}

pub op_of_kind : (plans : List Plan) (x : OpId) (k : Kind) → kind_at plans x ≡ Some k → IsOp plans x
unfolding kind_at
op_of_kind plans x k e = go (op_at plans x) refl e
  where
    go : (o : Option Op) → op_at plans x ≡ o → option_map (λ (o : Op). o.kind) o ≡ Some k → IsOp plans x
    go None p e = absurd (cc e)
    go (Some o) p e = rw p refl

pub send_is_op : (plans : List Plan) (x : OpId) → IsSend plans x → IsOp plans x
send_is_op plans x s = op_of_kind plans x _ s.kind

pub receive_is_op : (plans : List Plan) (x : OpId) → IsReceive plans x → IsOp plans x
receive_is_op plans x r = op_of_kind plans x _ r.kind

-- an operation exists if its number is below the number of operations of its rank
pub is_op_below : (plans : List Plan) (x : OpId) → x.op < length (ops_at plans x.rank) → IsOp plans x
unfolding op_at ops_at
is_op_below plans x inside = go (slice_get plans x.rank) inside
  where
    go : (q : Option Plan) → x.op < length (unwrap_or (option_map (λ (p : Plan). p.ops) q) []) → is_some (option_and_then (λ (p : Plan). slice_get p.ops x.op) q) ≡ true
    go None h = absurd (omega arith)
    go (Some p) h = some p.ops x.op h
      where
        some : (os : List Op) (k : ℕ) → k < length os → is_some (slice_get os k) ≡ true
        some [] k h = absurd (omega arith)
        some (o ∷ os) k h = ap is_some (slice_get-get_or (o ∷ os) k o h)

-- the kind of the operation at a place
pub kind_from_op : (plans : List Plan) (x : OpId) (o : Op) (k : Kind) → op_at plans x ≡ Some o → o.kind ≡ k → kind_at plans x ≡ Some k
unfolding kind_at
kind_from_op plans x o k e f = ap (option_map (λ (o : Op). o.kind)) e ∙ ap Some f

pub kind_of_op : (plans : List Plan) (x : OpId) (o : Op) (k : Kind) → op_at plans x ≡ Some o → kind_at plans x ≡ Some k → o.kind ≡ k
kind_of_op plans x o k e f =
    same_Some o.kind k (sym (kind_from_op plans x o o.kind e refl) ∙ f)

-- the size of a send whose value fits is within its limit
pub size_fits : (k : Kind) (nic bytes to tag : ℕ) → k ≡ Send bytes to tag → IsTrue (value_fits k nic) → bytes ≤ MAX_BYTES
size_fits k nic bytes to tag e fits =
    leb-true bytes MAX_BYTES (sym (ap (λ (j : Kind). value_fits j nic) e) ∙ fits)
