-- Which operations there are: `operations` lists each once, by rank and number.
use Rattle.std.proofs.Common.{ℕ, zero, suc, ◌+◌, ◌<◌, ◌≡◌, ◌≢◌, ◌↔◌, Bool, true, false, inl, inr, List, [], ◌∷◌, ◌++◌, Option, Some, None, All, AllPairs, Contains, slice_get, refl, ap, sym, ◌∙◌, subst, arith, is_some}
use Rattle.std.specs.Option.{option_map, option_and_then}
use Rattle.std.proofs.lemmas.Bool.{both_ways}
use Rattle.std.proofs.lemmas.Option.{same_Some, none-some}
use Rattle.std.proofs.lemmas.List.Kept.{AllPairs-cons}
use Rattle.std.proofs.lemmas.List.Elements.{All-nil, All-cons, All-append, All-weaker, All-contains, Contains-append_left, Contains-append_right}
use Rattle.goal_graph.specs.declared.action.OpId.{OpId}
use Rattle.goal_graph.specs.declared.action.Class.{Class}
use Rattle.goal_graph.specs.declared.action.Class.TheVariants.{Arrive, Serve, Data, Post, Begin}
use Rattle.goal_graph.specs.declared.plan.Op.{Op}
use Rattle.goal_graph.specs.declared.plan.Kind.{Kind}
use Rattle.goal_graph.specs.Schedule.{Plan, op_at, kind_at, places_of_rank, places_from, operations}
use Rattle.goal_graph.specs.Action.{Act}
use Rattle.goal_graph.specs.Allowed.{may, allowed}
use Rattle.goal_graph.specs.Order.{IsBefore}
use Rattle.goal_graph.proofs.Persist.{is_some_from, value_of_is_some}
use Rattle.goal_graph.proofs.Lists.{contains_first, contains_more}
use Rattle.goal_graph.proofs.Rules.{allowed_may}

abbrev pub op_id_at : ℕ → ℕ → OpId
op_id_at rank op = record { rank = rank; op = op }

-- an operation that exists
pub record IsAt (plans : List Plan) (x : OpId) : Type 0 where
  pub op : Op
  pub is : op_at plans x ≡ Some op

rank_listed : (rank first : ℕ) (os : List Op) (k : ℕ) (o : Op) → slice_get os k ≡ Some o → Contains (places_of_rank rank first os) (op_id_at rank (first + k))
unfolding places_of_rank
rank_listed rank first [] k o e = absurd (cc e)
rank_listed rank first (p ∷ os) zero o e =
    let same : first ≡ first + 0 = omega arith in
    subst (λ (n : ℕ). Contains (op_id_at rank first ∷ places_of_rank rank (first + 1) os) (op_id_at rank n)) same (contains_first (op_id_at rank first) (places_of_rank rank (first + 1) os) (op_id_at rank first) refl)
rank_listed rank first (p ∷ os) (suc k) o e =
    let same : (first + 1) + k ≡ first + suc k = omega arith in
    subst (λ (n : ℕ). Contains (op_id_at rank first ∷ places_of_rank rank (first + 1) os) (op_id_at rank n)) same (contains_more (op_id_at rank first) _ (op_id_at rank ((first + 1) + k)) (rank_listed rank (first + 1) os k o e))

listed_from : (base : ℕ) (plans : List Plan) (r k : ℕ) (p : Plan) (o : Op) → slice_get plans r ≡ Some p → slice_get p.ops k ≡ Some o → Contains (places_from base plans) (op_id_at (base + r) k)
unfolding places_from
listed_from base [] r k p o e f = absurd (cc e)
listed_from base (q ∷ plans) zero k p o e f =
    let same : base ≡ base + 0 = omega arith in
    let first : 0 + k ≡ k = omega arith in
    subst (λ (n : ℕ). Contains (places_of_rank base 0 q.ops ++ places_from (base + 1) plans) (op_id_at n k)) same (Contains-append_left (places_of_rank base 0 q.ops) (places_from (base + 1) plans) (op_id_at base k) (subst (λ (n : ℕ). Contains (places_of_rank base 0 q.ops) (op_id_at base n)) first (rank_listed base 0 q.ops k o (subst (λ (p : Plan). slice_get p.ops k ≡ Some o) (sym (same_Some q p e)) f))))
listed_from base (q ∷ plans) (suc r) k p o e f =
    let same : (base + 1) + r ≡ base + suc r = omega arith in
    subst (λ (n : ℕ). Contains (places_of_rank base 0 q.ops ++ places_from (base + 1) plans) (op_id_at n k)) same (Contains-append_right (places_of_rank base 0 q.ops) (places_from (base + 1) plans) (op_id_at ((base + 1) + r) k) (listed_from (base + 1) plans r k p o e f))

-- the operation at a place, by its rank's plan
op_parts : (plans : List Plan) (x : OpId) (o : Op) → op_at plans x ≡ Some o → (p : Plan) × (slice_get plans x.rank ≡ Some p) × (slice_get p.ops x.op ≡ Some o)
unfolding op_at
op_parts plans x o e = go (slice_get plans x.rank) refl e
  where
    go : (q : Option Plan) → slice_get plans x.rank ≡ q → option_and_then (λ (p : Plan). slice_get p.ops x.op) q ≡ Some o → (p : Plan) × (slice_get plans x.rank ≡ Some p) × (slice_get p.ops x.op ≡ Some o)
    go None q e = absurd (cc e)
    go (Some p) q e = (p, q, e)

op_from_parts : (plans : List Plan) (x : OpId) (p : Plan) (o : Op) → slice_get plans x.rank ≡ Some p → slice_get p.ops x.op ≡ Some o → op_at plans x ≡ Some o
unfolding op_at
op_from_parts plans x p o e f =
    ap (option_and_then (λ (p : Plan). slice_get p.ops x.op)) e ∙ f

-- every operation is listed
pub op_listed : (plans : List Plan) (x : OpId) → IsAt plans x → Contains (operations plans) x
op_listed plans x a =
    let parts = op_parts plans x a.op a.is in
    let same : 0 + x.rank ≡ x.rank = omega arith in
    subst (λ (n : ℕ). Contains (places_from 0 plans) (op_id_at n x.op)) same (listed_from 0 plans x.rank x.op parts.0 a.op parts.1 parts.2)

op_of_some_kind : (plans : List Plan) (x : OpId) (k : Kind) → kind_at plans x ≡ Some k → IsAt plans x
unfolding kind_at
op_of_some_kind plans x k e = go (op_at plans x) refl e
  where
    go : (o : Option Op) → op_at plans x ≡ o → option_map (λ (o : Op). o.kind) o ≡ Some k → IsAt plans x
    go None q e = absurd (cc e)
    go (Some o) q e = record { op = o; is = q }

pub kind_listed : (plans : List Plan) (x : OpId) (k : Kind) → kind_at plans x ≡ Some k → Contains (operations plans) x
kind_listed plans x k e = op_listed plans x (op_of_some_kind plans x k e)

pub allowed_listed : (plans : List Plan) (eager : OpId → Bool) (h : List Act) (c : Class) (x : OpId) → allowed plans eager h c x ≡ true → Contains (operations plans) x
allowed_listed plans eager h c x e = go (kind_at plans x) refl (allowed_may plans eager h c x e)
  where
    nothing : (c : Class) → may plans eager h c x None ≡ true → ⊥
    nothing Arrive e = both_ways false refl e
    nothing Serve e = both_ways false refl e
    nothing Data e = both_ways false refl e
    nothing Post e = both_ways false refl e
    nothing Begin e = both_ways false refl e

    go : (k : Option Kind) → kind_at plans x ≡ k → may plans eager h c x k ≡ true → Contains (operations plans) x
    go None q f = absurd (nothing c f)
    go (Some k) q f = kind_listed plans x k q

record IsPlaceOfRank (rank first : ℕ) (os : List Op) (y : OpId) : Type 0 where
  number : ℕ
  op : Op
  of_rank : y.rank ≡ rank
  place : y.op ≡ first + number
  is : slice_get os number ≡ Some op

places_of_rank_are_of_rank : (rank first : ℕ) (os : List Op) → All (IsPlaceOfRank rank first os) (places_of_rank rank first os)
unfolding places_of_rank
places_of_rank_are_of_rank rank first [] = All-nil (IsPlaceOfRank rank first [])
places_of_rank_are_of_rank rank first (o ∷ os) =
    All-cons (IsPlaceOfRank rank first (o ∷ os)) (op_id_at rank first) (places_of_rank rank (first + 1) os) (record { number = 0; op = o; of_rank = refl; place = omega arith; is = refl }) (All-weaker (IsPlaceOfRank rank (first + 1) os) (IsPlaceOfRank rank first (o ∷ os)) (λ y p. record { number = suc p.number; op = p.op; of_rank = p.of_rank; place = omega (arith, p.place); is = p.is }) (places_of_rank rank (first + 1) os) (places_of_rank_are_of_rank rank (first + 1) os))

record IsPlaceFrom (base : ℕ) (plans : List Plan) (y : OpId) : Type 0 where
  number : ℕ
  plan : Plan
  op : Op
  rank : y.rank ≡ base + number
  is_plan : slice_get plans number ≡ Some plan
  is_op : slice_get plan.ops y.op ≡ Some op

places_from_are_of_plans : (base : ℕ) (plans : List Plan) → All (IsPlaceFrom base plans) (places_from base plans)
unfolding places_from
places_from_are_of_plans base [] = All-nil (IsPlaceFrom base [])
places_from_are_of_plans base (p ∷ ps) =
    All-append (IsPlaceFrom base (p ∷ ps)) (places_of_rank base 0 p.ops) (places_from (base + 1) ps) (All-weaker (IsPlaceOfRank base 0 p.ops) (IsPlaceFrom base (p ∷ ps)) (λ y a. record { number = 0; plan = p; op = a.op; rank = omega (arith, a.of_rank); is_plan = refl; is_op = ap (slice_get p.ops) (the_number y a) ∙ a.is }) (places_of_rank base 0 p.ops) (places_of_rank_are_of_rank base 0 p.ops)) (All-weaker (IsPlaceFrom (base + 1) ps) (IsPlaceFrom base (p ∷ ps)) (λ y a. record { number = suc a.number; plan = a.plan; op = a.op; rank = omega (arith, a.rank); is_plan = a.is_plan; is_op = a.is_op }) (places_from (base + 1) ps) (places_from_are_of_plans (base + 1) ps))
  where
    the_number : (y : OpId) (a : IsPlaceOfRank base 0 p.ops y) → y.op ≡ a.number
    the_number y a = omega (arith, a.place)

-- what is listed exists
pub listed_op : (plans : List Plan) (x : OpId) → Contains (operations plans) x → IsAt plans x
listed_op plans x c =
    let place = All-contains (IsPlaceFrom 0 plans) (places_from 0 plans) x (places_from_are_of_plans 0 plans) c in
    let rank : x.rank ≡ place.number = omega (arith, place.rank) in
    record {
      op = place.op;
      is = op_from_parts plans x place.plan place.op (ap (slice_get plans) rank ∙ place.is_plan) place.is_op;
    }

pub kind_of_found_op : (plans : List Plan) (x : OpId) (o : Op) → op_at plans x ≡ Some o → kind_at plans x ≡ Some o.kind
unfolding kind_at
kind_of_found_op plans x o e = ap (option_map (λ (o : Op). o.kind)) e

-- what is listed has a kind
pub listed_kind : (plans : List Plan) (x : OpId) → Contains (operations plans) x → kind_at plans x ≢ None
listed_kind plans x c none =
    let a = listed_op plans x c in
    none-some a.op.kind (sym none ∙ kind_of_found_op plans x a.op a.is)

-- the operations are the places that have an operation
pub listed_places : (plans : List Plan) (x : OpId) → Contains (operations plans) x ↔ (is_some (op_at plans x) ≡ true)
listed_places plans x =
    (λ c. let a = listed_op plans x c in is_some_from (op_at plans x) a.op a.is, λ e. let o = value_of_is_some (op_at plans x) e in op_listed plans x (record { op = o.0; is = o.1 }))

rank_in_order : (rank first : ℕ) (os : List Op) (rest : List OpId) → All (λ (y : OpId). rank < y.rank) rest → AllPairs IsBefore rest → AllPairs IsBefore (places_of_rank rank first os ++ rest)
unfolding places_of_rank
rank_in_order rank first [] rest later ordered = ordered
rank_in_order rank first (o ∷ os) rest later ordered =
    AllPairs-cons IsBefore (op_id_at rank first) (places_of_rank rank (first + 1) os ++ rest) (All-append (IsBefore (op_id_at rank first)) (places_of_rank rank (first + 1) os) rest (All-weaker (IsPlaceOfRank rank (first + 1) os) (IsBefore (op_id_at rank first)) (λ y a. inr (sym a.of_rank, omega (arith, a.place))) (places_of_rank rank (first + 1) os) (places_of_rank_are_of_rank rank (first + 1) os)) (All-weaker (λ (y : OpId). rank < y.rank) (IsBefore (op_id_at rank first)) (λ y l. inl l) rest later)) (rank_in_order rank (first + 1) os rest later ordered)

places_in_order : (base : ℕ) (plans : List Plan) → AllPairs IsBefore (places_from base plans)
unfolding places_from
places_in_order base [] = λ i j d l b. absurd (omega arith)
places_in_order base (p ∷ ps) =
    rank_in_order base 0 p.ops (places_from (base + 1) ps) (All-weaker (IsPlaceFrom (base + 1) ps) (λ (y : OpId). base < y.rank) (λ y a. omega (arith, a.rank)) (places_from (base + 1) ps) (places_from_are_of_plans (base + 1) ps)) (places_in_order (base + 1) ps)

-- the operations are in order of rank, then of number
pub operations_in_order : (plans : List Plan) → AllPairs IsBefore (operations plans)
operations_in_order plans = places_in_order 0 plans

earlier_differ : (x y : OpId) → IsBefore x y → x ≢ y
earlier_differ x y (inl l) e = omega (arith, l, ap (λ (z : OpId). z.rank) e)
earlier_differ x y (inr l) e = omega (arith, l.1, ap (λ (z : OpId). z.op) e)

-- no operation is listed twice
pub operations_differ : (plans : List Plan) → AllPairs (λ (x y : OpId). x ≢ y) (operations plans)
operations_differ plans i j d l b =
    earlier_differ _ _ (operations_in_order plans i j d l b)
