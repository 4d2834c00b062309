-- The rows of what ends before operations start, need by need.
use Rattle.std.proofs.Common.{⊎_elim, ℕ, zero, suc, Bool, ◌+◌, ◌-◌, ◌≡◌, ◌<◌, ◌≤◌, ◌⊎◌, inl, inr, true, false, List, [], length, get_or, set, take, replicate, slice_get, slice_index_or, Option, Some, None, is_some, unwrap_or, All, Contains, refl, sym, ap, ◌∙◌, subst, arith, true≢false, get_or-set_same, get_or-set_other}
use Rattle.std.specs.Option.{option_map, option_and_then}
use Rattle.std.proofs.lemmas.Bool.{cases_eq, cases_lt}
use Rattle.std.proofs.lemmas.List.{get_or-replicate, get_or_past, length-replicate}
use Rattle.std.proofs.lemmas.List.Sums.{AllPass-from_list_all}
use Rattle.std.proofs.lemmas.Option.{slice_get_within}
use Rattle.std.proofs.lemmas.List.Elements.{All-more, All-weaker, All-contains, Contains-get_or}
use Rattle.goal_limits.specs.Limits.{certified_op_limit}
use Rattle.goal_graph.specs.declared.action.OpId.{OpId}
use Rattle.goal_graph.specs.declared.plan.Need.{Need}
use Rattle.goal_graph.specs.declared.plan.Op.{Op}
use Rattle.goal_graph.specs.declared.plan.When.TheVariants.{AfterEnd}
use Rattle.goal_graph.specs.Schedule.{Plan, op_at, ops_at, needs, needed}
use Rattle.goal_graph.specs.Fault.{IsOp, IsAccepted, is_below}
use Rattle.goal_graph.proofs.ForCallers.{needs-exist, is_op_below}
use Rattle.goal_blocks.specs.Race.{EndsBefore}
use Rattle.goal_certify.specs.Rows.{has}
use Rattle.goal_graph.specs.Search.{op_id}
use Rattle.goal_certify.specs.Before.{AreRows}
use Rattle.goal_certify.specs.Table.{AreEmpty}
use Rattle.goal_certify.proofs.Depth.{is_below_op_count}
use Rattle.goal_blocks.proofs.ForCallers.{Leads, first_need, leads_to_end_before}

pub op_number_below_op_count : (plans : List Plan) (x : OpId) → IsOp plans x → x.op < length (ops_at plans x.rank)
unfolding op_at ops_at
op_number_below_op_count plans x is_op = go (slice_get plans x.rank) is_op
  where
    go : (q : Option Plan) → is_some (option_and_then (λ (p : Plan). slice_get p.ops x.op) q) ≡ true → x.op < length (unwrap_or (option_map (λ (p : Plan). p.ops) q) [])
    go None h = absurd (true≢false (sym h))
    go (Some p) h = within (slice_get p.ops x.op) refl h
      where
        within : (o : Option Op) → slice_get p.ops x.op ≡ o → is_some o ≡ true → x.op < length p.ops
        within None e h = absurd (true≢false (sym h))
        within (Some o) e h = slice_get_within p.ops x.op o e

-- what an operation needs is below the number of its rank's operations
pub needs_below : (plans : List Plan) → IsAccepted plans → (x : OpId) → IsOp plans x → All (λ (d : Need). d.op < length (ops_at plans x.rank)) (needs plans x)
needs_below plans accepted x is_op =
    All-weaker _ _ (λ d there. op_number_below_op_count plans (needed x d) there) (needs plans x) (needs-exist plans x accepted.plain is_op)

-- the depth of each operation of a rank is below or at the number of its operations
pub depth_at_most_op_count : (plans : List Plan) → IsAccepted plans → (x : OpId) → IsOp plans x → is_below plans (length (ops_at plans x.rank)) x ≡ true
depth_at_most_op_count plans accepted x is_op =
    let depth = accepted.depths x is_op in
    is_below_op_count plans x.rank (length (ops_at plans x.rank)) (λ k inside. needs_below plans accepted (op_id x.rank k) (is_op_below plans (op_id x.rank k) inside)) depth.bound x.op (op_number_below_op_count plans x is_op) depth.below

-- another need of the operation y is taken
module _ (plans : List Plan) (y : OpId) (old new : List ℕ) (done : ℕ → Type 0) (rows : AreRows plans y.rank old done) (keeps : (r k : ℕ) → k < certified_op_limit → has old r k ≡ true → has new r k ≡ true) where
  pub rows_after_taking_need : (d : Need) → Contains (needs plans y) d → y.op < length (ops_at plans y.rank) → d.op < length (ops_at plans y.rank) → ((r k : ℕ) → k < certified_op_limit → has new r k ≡ true → (has old r k ≡ true) ⊎ ((r ≡ y.op) × ((has old d.op k ≡ true) ⊎ ((d.when ≡ AfterEnd) × (k ≡ d.op))))) → AreRows plans y.rank new done
  rows_after_taking_need d c own below no_more = record {
    low = λ op k few h. ⊎_elim (rows.low op k few) (λ more. (subst (λ (n : ℕ). n < length (ops_at plans y.rank)) (sym more.0) own, ⊎_elim (λ there. (rows.low d.op k few there).1) (λ end. subst (λ (n : ℕ). n < length (ops_at plans y.rank)) (sym end.1) below) more.1)) (no_more op k few h);
    sound = λ op k few h. ⊎_elim (rows.sound op k few) (λ more. subst (λ (n : ℕ). EndsBefore plans (op_id y.rank k) (op_id y.rank n)) (sym more.0) (leads_to_end_before plans (op_id y.rank k) y d c (⊎_elim (λ there. inr (rows.sound d.op k few there)) (λ end. inl (end.0, ap (op_id y.rank) (sym end.1))) more.1))) (no_more op k few h);
    complete = λ op k few is_done b. keeps op k few (rows.complete op k few is_done b);
  }

  pub row_has_taken_need : (d : Need) → done d.op → ((k : ℕ) → k < certified_op_limit → has old d.op k ≡ true → has new y.op k ≡ true) → (d.when ≡ AfterEnd → has new y.op d.op ≡ true) → (k : ℕ) → k < certified_op_limit → Leads plans (op_id y.rank k) y d → has new y.op k ≡ true
  row_has_taken_need d is_done adds ends k few (inl (e, f)) =
      let same : d.op ≡ k = ap (λ (z : OpId). z.op) f in
      subst (λ (n : ℕ). has new y.op n ≡ true) same (ends e)
  row_has_taken_need d is_done adds ends k few (inr b) = adds k few (rows.complete d.op k few is_done b)

-- all needs of an operation are taken
pub row_done : (plans : List Plan) (y : OpId) (rows : List ℕ) → All (λ (d : Need). (k : ℕ) → k < certified_op_limit → Leads plans (op_id y.rank k) y d → has rows y.op k ≡ true) (needs plans y) → (k : ℕ) → k < certified_op_limit → EndsBefore plans (op_id y.rank k) y → has rows y.op k ≡ true
row_done plans y rows all k few b =
    let f = first_need plans (op_id y.rank k) y b in
    All-contains (λ (d : Need). (k : ℕ) → k < certified_op_limit → Leads plans (op_id y.rank k) y d → has rows y.op k ≡ true) (needs plans y) f.0 all f.1 k few f.2

-- the next need of y, with what it changes in the row and in the list of taken needs
module _ (plans : List Plan) (y : OpId) (old new : List ℕ) (done : ℕ → Type 0) (rows : AreRows plans y.rank old done) (keeps : (r k : ℕ) → k < certified_op_limit → has old r k ≡ true → has new r k ≡ true) (i : ℕ) (e d : Need) (same : d ≡ get_or (needs plans y) i e) (inside : i < length (needs plans y)) where
  is_need : Contains (needs plans y) d
  is_need =
      subst (λ (n : Need). Contains (needs plans y) n) (sym same) (Contains-get_or (needs plans y) i e inside)

  pub rows_after_next_need : y.op < length (ops_at plans y.rank) → d.op < length (ops_at plans y.rank) → ((r k : ℕ) → k < certified_op_limit → has new r k ≡ true → (has old r k ≡ true) ⊎ ((r ≡ y.op) × ((has old d.op k ≡ true) ⊎ ((d.when ≡ AfterEnd) × (k ≡ d.op))))) → AreRows plans y.rank new done
  rows_after_next_need own below no_more = rows_after_taking_need plans y old new done rows keeps d is_need own below no_more

  abbrev Has : List ℕ → Need → Type 0
  Has rs n = (k : ℕ) → k < certified_op_limit → Leads plans (op_id y.rank k) y n → has rs y.op k ≡ true

  pub needs_taken_with_next : done d.op → ((k : ℕ) → k < certified_op_limit → has old d.op k ≡ true → has new y.op k ≡ true) → (d.when ≡ AfterEnd → has new y.op d.op ≡ true) → All (λ (n : Need). (k : ℕ) → k < certified_op_limit → Leads plans (op_id y.rank k) y n → has old y.op k ≡ true) (take i (needs plans y)) → All (λ (n : Need). (k : ℕ) → k < certified_op_limit → Leads plans (op_id y.rank k) y n → has new y.op k ≡ true) (take (i + 1) (needs plans y))
  needs_taken_with_next is_done adds ends before =
      All-more (Has new) (needs plans y) i e inside (All-weaker (Has old) (Has new) (λ n f k few l. keeps y.op k few (f k few l)) (take i (needs plans y)) before) (subst (Has new) same (row_has_taken_need plans y old new done rows keeps d is_done adds ends))

-- an operation with a depth has a bound of it above 0, and what it needs has a lower one
pub depth_bound_is_positive : (plans : List Plan) (n : ℕ) (x : OpId) → is_below plans n x ≡ true → 1 ≤ n
unfolding is_below
depth_bound_is_positive plans zero x h = absurd (true≢false (sym h))
depth_bound_is_positive plans (suc n) x h = omega arith

pub needed_depth : (plans : List Plan) (n : ℕ) (x : OpId) → is_below plans n x ≡ true → All (λ (d : Need). is_below plans (n - 1) (needed x d) ≡ true) (needs plans x)
unfolding is_below
needed_depth plans zero x h = absurd (true≢false (sym h))
needed_depth plans (suc n) x h =
    let e : suc n - 1 ≡ n = omega arith in
    subst (λ (m : ℕ). All (λ (d : Need). is_below plans m (needed x d) ≡ true) (needs plans x)) (sym e) (AllPass-from_list_all (λ (d : Need). is_below plans n (needed x d)) (needs plans x) h)

-- no mark is set at the start, and no row has a number
no_marks : (n k : ℕ) → get_or (replicate n false) k false ≡ false
no_marks n k =
    elim (cases_lt k n) [
      | inl inside ↦ get_or-replicate n k false false inside
      | inr past ↦ get_or_past (replicate n false) k false (omega (arith, length-replicate n false))
    ]

pub rows_at_start : (plans : List Plan) (rank : ℕ) (rows : List ℕ) (done : List Bool) (m : ℕ) → AreEmpty rows → done ≡ replicate m false → AreRows plans rank rows (λ k. slice_index_or done k false ≡ true)
rows_at_start plans rank rows done m empty f = record {
  low = λ op k few h. absurd (empty op k few h);
  sound = λ op k few h. absurd (empty op k few h);
  complete = λ op k few h b. absurd (true≢false (sym h ∙ ap (λ (ds : List Bool). get_or ds op false) f ∙ no_marks m op));
}

-- the marks after another one is set
pub mark_stays : (done : List Bool) (i k : ℕ) → i < length done → get_or done k false ≡ true → get_or (set done i true) k false ≡ true
mark_stays done i k inside h =
    elim (cases_eq k i) [
      | inl same ↦ rw same (get_or-set_same done i true false inside)
      | inr apart ↦ get_or-set_other done i k true false apart ∙ h
    ]

pub rows_same : (plans : List Plan) (rank : ℕ) (rows others : List ℕ) (done : ℕ → Type 0) → rows ≡ others → AreRows plans rank others done → AreRows plans rank rows done
rows_same plans rank rows others done e r =
    subst (λ (rs : List ℕ). AreRows plans rank rs done) (sym e) r
