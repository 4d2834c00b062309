-- The place of each operation in the order of all.
use Rattle.std.proofs.Common.{◌≡◌, ◌⊎◌, ℕ, zero, suc, ◌+◌, ◌<◌, ◌≤◌, List, [], ◌∷◌, ◌++◌, length, get_or, take, Some, is_some, slice_get, refl, sym, ap, ◌∙◌, subst, arith, inl, inr, add-zero, zero-add, length-append}
use Rattle.std.specs.List.{sum_by}
use Rattle.std.proofs.lemmas.Bool.{cases_lt, false≢true}
use Rattle.std.proofs.lemmas.List.{take-take, take_all, length-take-le, length_push, get_or_append_left, get_or_push, get_or-append-add, get_or_default}
use Rattle.std.proofs.lemmas.List.Sums.{sum_by-cons, sum_by_more, sum_by_more_le, get_or-le-sum_by}
use Rattle.std.proofs.lemmas.List.Concat.{get_or-flat_map, length-flat_map}
use Rattle.std.proofs.lemmas.List.FromFn.{length-map-range_with_len, get_or-map-range_with_len}
use Rattle.std.proofs.lemmas.Option.{slice_get-get_or, slice_get_cases, slice_get_within, get_or_from_slice_get}
use Rattle.goal_graph.specs.declared.action.OpId.{OpId}
use Rattle.goal_graph.specs.declared.plan.Op.{Op}
use Rattle.goal_graph.specs.declared.plan.Kind.TheVariants.{Calc}
use Rattle.goal_graph.specs.declared.plan.Need.{Need}
use Rattle.goal_graph.specs.declared.rows.Listing.{Listing}
use Rattle.goal_graph.specs.declared.rows.Listing.TheVariants.{Needs, WaitingOn}
use Rattle.goal_graph.specs.Schedule.{Plan, needs, op_at, ops_at, deps_at, places_of_rank, places_from, operations}
use Rattle.goal_graph.specs.Concerned.{waiting_on}
use Rattle.goal_limits.specs.declared.limits.TheConstants.{MAX_OPS}
use Rattle.goal_graph.specs.Fault.{IsOp, op_count, dep_count, note_count}
use Rattle.goal_graph.specs.Rows.{row, rank_rows, all_rows}
use Rattle.goal_graph.specs.Tables.{index_of, AreStarts}

-- a value of the type, for a read past the end
pub no_plan : Plan
no_plan = record { ops = []; deps = []; notes = [] }

-- another rank adds its number of operations
pub op_count-more : (plans : List Plan) (i : ℕ) (p : Plan) → i < length plans → op_count (take (i + 1) plans) ≡ op_count (take i plans) + length (get_or plans i p).ops
unfolding op_count
op_count-more plans i p inside = sum_by_more (λ (q : Plan). length q.ops) plans i p inside

-- the operations of the first i + 1 ranks are at most all operations
pub op_count-more_le : (plans : List Plan) (i : ℕ) (p : Plan) → i < length plans → op_count (take i plans) + length (get_or plans i p).ops ≤ op_count plans
unfolding op_count
op_count-more_le plans i p inside = sum_by_more_le (λ (q : Plan). length q.ops) plans i p inside

-- the operations of a rank
pub ops_at_some : (plans : List Plan) (rank : ℕ) (p : Plan) → slice_get plans rank ≡ Some p → ops_at plans rank ≡ p.ops
unfolding ops_at
ops_at_some plans rank p e = rw e refl

pub few_ops_at : (plans : List Plan) → op_count plans ≤ MAX_OPS → (rank : ℕ) (p : Plan) → slice_get plans rank ≡ Some p → length p.ops ≤ MAX_OPS
unfolding op_count
few_ops_at plans few rank p e =
    let le = get_or-le-sum_by (λ (q : Plan). length q.ops) plans rank p (slice_get_within plans rank p e) in
    subst (λ (q : Plan). length q.ops ≤ MAX_OPS) (get_or_from_slice_get plans rank p p e) (omega (arith, le, few))

pub op_count-nil : op_count [] ≡ 0
unfolding op_count
op_count-nil = refl

-- no ranks
pub AreStarts-nil : AreStarts [] (0 ∷ [])
unfolding op_count
AreStarts-nil = record { one_each = refl; start = go }
  where
    go : (rank : ℕ) → rank ≤ 0 → get_or (0 ∷ []) rank 0 ≡ op_count (take rank [])
    go zero in_range = sym op_count-nil
    go (suc rank) in_range = absurd (omega arith)

-- another rank begins where the ranks before it end
pub AreStarts-more : (plans : List Plan) (i n : ℕ) (starts : List ℕ) → i < length plans → AreStarts (take i plans) starts → n ≡ op_count (take (i + 1) plans) → AreStarts (take (i + 1) plans) (starts ++ n ∷ [])
AreStarts-more plans i n starts inside are at =
    let size = length-take-le i plans (omega arith) in
    let more = length-take-le (i + 1) plans (omega arith) in
    let longer = length_push starts n in
    let old = are.one_each in
    record { one_each = omega arith; start = λ rank in_range. go rank in_range (cases_lt rank (i + 1)) }
  where
    go : (rank : ℕ) → rank ≤ length (take (i + 1) plans) → (rank < i + 1) ⊎ (i + 1 ≤ rank) → get_or (starts ++ n ∷ []) rank 0 ≡ op_count (take rank (take (i + 1) plans))
    go rank in_range (inl below) =
        let size = length-take-le i plans (omega arith) in
        let old : get_or starts rank 0 ≡ op_count (take rank plans) = rw (take-take rank i plans (omega arith)) at (are.start rank (omega arith)) in
        rw (get_or_append_left starts (n ∷ []) 0 rank (omega (arith, are.one_each)), take-take rank (i + 1) plans (omega arith)) old
    go rank in_range (inr here) =
        let size = length-take-le i plans (omega arith) in
        let more = length-take-le (i + 1) plans (omega arith) in
        let e : rank ≡ i + 1 = omega arith in
        rw (e, take-take (i + 1) (i + 1) plans (omega arith)) (get_or_push starts n 0 (i + 1) (omega (arith, are.one_each)) ∙ at)

-- a rank has a row per operation, and so have all ranks
pub length-rank_rows : (listing : Listing) (p : Plan) → length (rank_rows listing p) ≡ length p.ops
unfolding rank_rows
length-rank_rows listing p = length-map-range_with_len (row listing p.deps) 0 (length p.ops)

pub length-all_rows : (listing : Listing) (plans : List Plan) → length (all_rows listing plans) ≡ op_count plans
unfolding all_rows op_count
length-all_rows listing plans =
    length-flat_map (rank_rows listing) plans ∙ ap (λ f. sum_by f plans) (λ i p. length-rank_rows listing p i)

-- the row of an operation of a rank
pub rank_rows-at : (listing : Listing) (p : Plan) (op : ℕ) → op < length p.ops → get_or (rank_rows listing p) op [] ≡ row listing p.deps op
unfolding rank_rows
rank_rows-at listing p op inside = get_or-map-range_with_len (row listing p.deps) 0 (length p.ops) op op [] inside (omega arith)

pub length-places_of_rank : (rank op : ℕ) (ops : List Op) → length (places_of_rank rank op ops) ≡ length ops
unfolding places_of_rank
length-places_of_rank rank op [] = refl
length-places_of_rank rank op (o ∷ os) = ap suc (length-places_of_rank rank (op + 1) os)

pub places_of_rank-at : (rank first : ℕ) (ops : List Op) (op : ℕ) (x : OpId) → op < length ops → get_or (places_of_rank rank first ops) op x ≡ record { rank = rank; op = first + op }
unfolding places_of_rank
places_of_rank-at rank first [] op x inside = absurd (omega arith)
places_of_rank-at rank first (o ∷ os) zero x inside = ap (λ n. record { rank = rank; op = n }) (sym (add-zero first))
places_of_rank-at rank first (o ∷ os) (suc op) x inside =
    let e : first + 1 + op ≡ first + suc op = omega arith in
    places_of_rank-at rank (first + 1) os op x (omega arith) ∙ ap (λ n. record { rank = rank; op = n }) e

pub op_count-cons : (p : Plan) (plans : List Plan) → op_count (p ∷ plans) ≡ length p.ops + op_count plans
unfolding op_count
op_count-cons p plans = sum_by-cons (λ (q : Plan). length q.ops) p plans

length-places_from : (rank : ℕ) (plans : List Plan) → length (places_from rank plans) ≡ op_count plans
unfolding places_from
length-places_from rank [] = sym op_count-nil
length-places_from rank (p ∷ plans) =
    simp length-append (omega (arith, length-places_of_rank rank 0 p.ops, length-places_from (rank + 1) plans, op_count-cons p plans))

-- the list of all operations is as long as their number
pub length-operations : (plans : List Plan) → length (operations plans) ≡ op_count plans
length-operations plans = length-places_from 0 plans

places_from-at : (first : ℕ) (plans : List Plan) (rank op : ℕ) (x : OpId) → rank < length plans → op < length (get_or plans rank no_plan).ops → get_or (places_from first plans) (op_count (take rank plans) + op) x ≡ record { rank = first + rank; op = op }
unfolding places_from
places_from-at first [] rank op x inside in_rank = absurd (omega arith)
places_from-at first (p ∷ plans) zero op x inside in_rank =
    let size = length-places_of_rank first 0 p.ops in
    rw (op_count-nil, zero-add op)
    (get_or_append_left (places_of_rank first 0 p.ops) (places_from (first + 1) plans) x op (omega arith)
    ∙ places_of_rank-at first 0 p.ops op x in_rank
    ∙ rw (zero-add op, add-zero first) refl)
places_from-at first (p ∷ plans) (suc rank) op x inside in_rank =
    let e : op_count (p ∷ take rank plans) + op ≡ length (places_of_rank first 0 p.ops) + (op_count (take rank plans) + op) =
    omega (arith, op_count-cons p (take rank plans), length-places_of_rank first 0 p.ops) in
    let shifted : first + 1 + rank ≡ first + suc rank = omega arith in
    rw e
    (get_or-append-add (places_of_rank first 0 p.ops) (places_from (first + 1) plans) (op_count (take rank plans) + op) x
    ∙ places_from-at (first + 1) plans rank op x (omega arith) in_rank
    ∙ ap (λ n. record { rank = n; op = op }) shifted)

-- the rank and the number of an operation are in range
pub record IsLocated (plans : List Plan) (x : OpId) : Type 0 where
  pub rank_in : x.rank < length plans
  pub op_in : (p : Plan) → x.op < length (get_or plans x.rank p).ops

pub IsOp-located : (plans : List Plan) (x : OpId) → IsOp plans x → IsLocated plans x
unfolding op_at
IsOp-located plans x is_op = elim (slice_get_cases plans x.rank).1 [
  | inl at ↦ elim (slice_get_cases (at.0).ops x.op).1 [
    | inl in_rank ↦ record { rank_in = at.1; op_in = λ p. rw (get_or_default plans x.rank p at.0 at.1, at.3) in_rank.1 }
    | inr past ↦ absurd (false≢true (rw (at.2, past.1) at is_op))
  ]
  | inr past ↦ absurd (false≢true (rw past.1 at is_op))
]

pub deps_at-rank : (plans : List Plan) (rank : ℕ) (p : Plan) → rank < length plans → deps_at plans rank ≡ (get_or plans rank p).deps
unfolding deps_at
deps_at-rank plans rank p inside = rw (slice_get-get_or plans rank p inside) refl

module _ (plans : List Plan) (x : OpId) (located : IsLocated plans x) where
  pub op_at-located : (p : Plan) (o : Op) → op_at plans x ≡ Some (get_or (get_or plans x.rank p).ops x.op o)
  unfolding op_at
  op_at-located p o = rw (slice_get-get_or plans x.rank p located.rank_in) (slice_get-get_or (get_or plans x.rank p).ops x.op o (located.op_in p))

  pub deps_at-located : (p : Plan) → deps_at plans x.rank ≡ (get_or plans x.rank p).deps
  deps_at-located p = deps_at-rank plans x.rank p located.rank_in

  -- its place is below the number of all operations
  pub index_of-below : index_of plans x < op_count plans
  unfolding index_of op_count
  index_of-below = omega (arith, sum_by_more_le (λ (p : Plan). length p.ops) plans x.rank no_plan located.rank_in, located.op_in no_plan)

  -- it is the first place of its rank plus its number
  pub index_of-starts : (starts : List ℕ) → AreStarts plans starts → index_of plans x ≡ get_or starts x.rank 0 + x.op
  unfolding index_of
  index_of-starts starts are = ap (λ n. n + x.op) (sym (are.start x.rank (omega (arith, located.rank_in))))

  -- its row is at that place
  pub all_rows-at : (listing : Listing) → slice_get (all_rows listing plans) (index_of plans x) ≡ Some (row listing (deps_at plans x.rank) x.op)
  unfolding all_rows index_of
  all_rows-at listing =
      let f = rank_rows listing in
      let p = get_or plans x.rank no_plan in
      let below : index_of plans x < length (all_rows listing plans) = omega (arith, length-all_rows listing plans, index_of-below) in
      let in_row : x.op < length (f p) = omega (arith, length-rank_rows listing p, located.op_in no_plan) in
      let read = rw (length-all_rows listing (take x.rank plans)) at (get_or-flat_map f plans x.rank x.op no_plan [] located.rank_in in_row) in
      slice_get-get_or (all_rows listing plans) (index_of plans x) [] below
      ∙ ap (λ r. Some r) (read ∙ rank_rows-at listing p x.op (located.op_in no_plan) ∙ ap (λ ds. row listing ds x.op) (sym (deps_at-located no_plan)))

  -- so is the operation, in the list of all
  pub operations-at : slice_get (operations plans) (index_of plans x) ≡ Some x
  unfolding index_of
  operations-at =
      let below : index_of plans x < length (operations plans) = omega (arith, length-operations plans, index_of-below) in
      slice_get-get_or (operations plans) (index_of plans x) x below
      ∙ ap (λ y. Some y) (places_from-at 0 plans x.rank x.op x located.rank_in (located.op_in no_plan) ∙ ap (λ n. record { rank = n; op = x.op }) (zero-add x.rank))

-- what an operation needs is its row, and so is what needs it
pub row-needs : (plans : List Plan) (x : OpId) → row Needs (deps_at plans x.rank) x.op ≡ needs plans x
unfolding row needs
row-needs plans x = refl

pub row-waiting_on : (plans : List Plan) (x : OpId) → row WaitingOn (deps_at plans x.rank) x.op ≡ waiting_on plans x
unfolding row waiting_on
row-waiting_on plans x = refl

-- the row at the place of an operation
pub record IsRowOf (listing : Listing) (plans : List Plan) (x : OpId) (rows : List (List Need)) (i : ℕ) : Type 0 where
  pub inside : i < length rows
  pub found : slice_get rows i ≡ Some (row listing (deps_at plans x.rank) x.op)

pub row_of : (listing : Listing) (plans : List Plan) (x : OpId) (rows : List (List Need)) (i : ℕ) → IsOp plans x → rows ≡ all_rows listing plans → i ≡ index_of plans x → IsRowOf listing plans x rows i
row_of listing plans x rows i is_op rows_are at =
    let located = IsOp-located plans x is_op in
    rw (rows_are, at) (record {
      inside = omega (arith, length-all_rows listing plans, index_of-below plans x located);
      found = all_rows-at plans x located listing;
    })

-- the last place is the number of all operations
pub AreStarts-last : (plans : List Plan) (starts : List ℕ) → AreStarts plans starts → get_or starts (length plans) 0 ≡ length (operations plans)
AreStarts-last plans starts are =
    are.start (length plans) (omega arith)
    ∙ ap op_count (take_all (length plans) plans (omega arith))
    ∙ sym (length-operations plans)

-- a value of the type, for a read past the end
no_op : Op
no_op = record { kind = Calc 0; cpu = 0; nic = 0 }

-- a located operation exists
pub IsOp-from_located : (plans : List Plan) (x : OpId) → IsLocated plans x → IsOp plans x
IsOp-from_located plans x located = ap is_some (op_at-located plans x located no_plan no_op)

-- an operation exists if its rank exists and its number is below the size of that rank
pub IsOp-below : (plans : List Plan) (x : OpId) → x.rank < length plans → x.op < length (get_or plans x.rank no_plan).ops → IsOp plans x
IsOp-below plans x rank_in op_in =
    IsOp-from_located plans x (record { rank_in = rank_in; op_in = λ p. rw (get_or_default plans x.rank p no_plan rank_in) op_in })

-- the number of operations of a rank, as the code reads it
pub rank_size : (plans read : List Plan) (rank : ℕ) (p : Plan) (n : ℕ) → read ≡ plans → rank < length plans → p ≡ get_or read rank p → n ≡ length p.ops → n ≡ length (get_or plans rank no_plan).ops
rank_size plans read rank p n same inside at size =
    size ∙ ap (λ (q : Plan). length q.ops) (rw same at at ∙ get_or_default plans rank p no_plan inside)

-- another rank adds its numbers of dependencies and notes
pub dep_count-more : (plans : List Plan) (i : ℕ) (p : Plan) → i < length plans → dep_count (take (i + 1) plans) ≡ dep_count (take i plans) + length (get_or plans i p).deps
unfolding dep_count
dep_count-more plans i p inside = sum_by_more (λ (q : Plan). length q.deps) plans i p inside

pub dep_count-more_le : (plans : List Plan) (i : ℕ) (p : Plan) → i < length plans → dep_count (take i plans) + length (get_or plans i p).deps ≤ dep_count plans
unfolding dep_count
dep_count-more_le plans i p inside = sum_by_more_le (λ (q : Plan). length q.deps) plans i p inside

pub note_count-more : (plans : List Plan) (i : ℕ) (p : Plan) → i < length plans → note_count (take (i + 1) plans) ≡ note_count (take i plans) + length (get_or plans i p).notes
unfolding note_count
note_count-more plans i p inside = sum_by_more (λ (q : Plan). length q.notes) plans i p inside

-- each rank has at most as many as all ranks together
pub lengths-le : (plans : List Plan) (i : ℕ) (p : Plan) → i < length plans → record { ops : length (get_or plans i p).ops ≤ op_count plans; deps : length (get_or plans i p).deps ≤ dep_count plans; notes : length (get_or plans i p).notes ≤ note_count plans }
unfolding op_count dep_count note_count
lengths-le plans i p inside = record {
  ops = get_or-le-sum_by (λ (q : Plan). length q.ops) plans i p inside;
  deps = get_or-le-sum_by (λ (q : Plan). length q.deps) plans i p inside;
  notes = get_or-le-sum_by (λ (q : Plan). length q.notes) plans i p inside;
}
