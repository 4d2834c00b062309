-- The search for an operation without a depth, step by step.
use Rattle.std.proofs.Common.{◌≡◌, ◌⊎◌, ℕ, ◌+◌, ◌-◌, ◌<◌, ◌≤◌, eqb, ltb, true, false, List, [], ◌∷◌, ◌++◌, length, get_or, set, sum, take, Option, Some, None, refl, sym, ap, ◌∙◌, subst, arith, inl, inr}
use Rattle.std.specs.Prelude.{if◌then◌else◌}
use Rattle.std.proofs.lemmas.Bool.{cases_lt, cases_eq, eq-eqb, false≢true}
use Rattle.std.proofs.lemmas.List.{length_push, length-set, get_or_default, length-take-le, get_or_append_left, get_or_push, get_or-set_same, get_or-set_other, get_or-take, take-append-le, take_more, take_at, take_all}
use Rattle.std.specs.List.{list_all}
use Rattle.std.proofs.lemmas.List.Sums.{sum_by-set}
use Rattle.goal_graph.specs.declared.plan.When.TheVariants.{AfterEnd}
use Rattle.goal_graph.specs.declared.plan.Need.{Need}
use Rattle.goal_graph.specs.Schedule.{Plan, needs, deps_at}
use Rattle.goal_graph.specs.Concerned.{waiting_on}
use Rattle.goal_graph.specs.Fault.{HasDepth, IsOp, plain_fault}
use Rattle.goal_graph.specs.Search.{op_id, is_among, unfinished, count_of, IsSearch, CoversRank, IsFirstMissing, IsFirstInRank}
use Rattle.goal_graph.proofs.Numbers.{ne-eqb}
use Rattle.goal_graph.proofs.Counts.{is_among-push, is_among-found, is_among-above, count_of-push, count_of-nil, count_of-rows, count_of-take-le, unfinished-push, unfinished-nil}
use Rattle.goal_graph.proofs.Depths.{HasDepth-from_needs, needing_each_other_no_depth}
use Rattle.goal_graph.proofs.Places.{no_plan, row-needs, row-waiting_on, IsOp-located, IsOp-below}
use Rattle.goal_graph.proofs.Ranges.{waiting_on-in_range, needs-in_range}
use Rattle.std.proofs.Math.Bool.{or-false, or-true}

-- places of a list before and after another item
place_is_old_or_last : (xs : List ℕ) (x k : ℕ) → k < length (xs ++ x ∷ []) → (k < length xs) ⊎ (k ≡ length xs)
place_is_old_or_last xs x k inside =
    let size = length_push xs x in
    elim (cases_lt k (length xs)) [ inl old ↦ inl old | inr new ↦ inr (omega arith) ]

module _ (plans : List Plan) (rank : ℕ) where
  -- each of the first `done` operations in the order has a depth
  listed_operation_has_depth : (missing order : List ℕ) (done m : ℕ) (seen : List Need) → IsSearch plans rank missing order done seen → m ≤ length order → (op : ℕ) → is_among (take m order) op ≡ true → HasDepth plans (op_id rank op)
  listed_operation_has_depth missing order done m seen s within op h =
      let r = is_among-found (take m order) op h in
      let size = length-take-le m order within in
      let at : r.0 < m = omega (arith, r.1) in
      subst (λ n. HasDepth plans (op_id rank n)) (sym (get_or-take m order r.0 0 at) ∙ r.2) (s.deep r.0 (omega arith))

  -- what a newly listed operation needs: it is in range, was not listed, and has a depth
  push-in_rank : (order : List ℕ) (x n : ℕ) → x < n → ((k : ℕ) → k < length order → get_or order k 0 < n) → (k : ℕ) → k < length (order ++ x ∷ []) → get_or (order ++ x ∷ []) k 0 < n
  push-in_rank order x n below old k inside = elim (place_is_old_or_last order x k inside) [
    | inl before ↦ rw (get_or_append_left order (x ∷ []) 0 k before) (old k before)
    | inr here ↦ rw (get_or_push order x 0 k (sym here)) below
  ]

  push-once : (order : List ℕ) (x : ℕ) → is_among order x ≡ false → ((k : ℕ) → k < length order → is_among (take k order) (get_or order k 0) ≡ false) → (k : ℕ) → k < length (order ++ x ∷ []) → is_among (take k (order ++ x ∷ [])) (get_or (order ++ x ∷ []) k 0) ≡ false
  push-once order x fresh old k inside = elim (place_is_old_or_last order x k inside) [
    | inl before ↦ rw (get_or_append_left order (x ∷ []) 0 k before, take-append-le k order (x ∷ []) (omega arith)) (old k before)
    | inr here ↦ rw (get_or_push order x 0 k (sym here), take_at order (x ∷ []) k (sym here)) fresh
  ]

  push-deep : (order : List ℕ) (x : ℕ) → HasDepth plans (op_id rank x) → ((k : ℕ) → k < length order → HasDepth plans (op_id rank (get_or order k 0))) → (k : ℕ) → k < length (order ++ x ∷ []) → HasDepth plans (op_id rank (get_or (order ++ x ∷ []) k 0))
  push-deep order x depth old k inside = elim (place_is_old_or_last order x k inside) [
    | inl before ↦ rw (get_or_append_left order (x ∷ []) 0 k before) (old k before)
    | inr here ↦ rw (get_or_push order x 0 k (sym here)) depth
  ]

  module _ (missing order : List ℕ) (count : ℕ) (s : IsSearch plans rank missing order 0 []) (counts : count ≡ length (needs plans (op_id rank (length missing)))) where
    begin-counted : (op : ℕ) → op < length (missing ++ count ∷ []) → get_or (missing ++ count ∷ []) op 0 + count_of [] op ≡ unfinished [] (needs plans (op_id rank op))
    begin-counted op inside = elim (place_is_old_or_last missing count op inside) [
      | inl before ↦ rw (get_or_append_left missing (count ∷ []) 0 op before) (s.counted op before)
      | inr here ↦ rw (get_or_push missing count 0 op (sym here), here) (omega (arith, counts, count_of-nil (length missing), unfinished-nil (needs plans (op_id rank (length missing)))))
    ]

    begin-in_rank : (k : ℕ) → k < length order → get_or order k 0 < length (missing ++ count ∷ [])
    begin-in_rank k inside = omega (arith, s.in_rank k inside, length_push missing count)

    -- an operation with unfinished needs waits
    pub IsSearch-waits : (count ≡ 0 → ⊥) → IsSearch plans rank (missing ++ count ∷ []) order 0 []
    IsSearch-waits some = record {
      counted = begin-counted;
      listed = λ op inside. elim (place_is_old_or_last missing count op inside) [
        | inl before ↦ rw (get_or_append_left missing (count ∷ []) 0 op before) (s.listed op before)
        | inr here ↦ rw (get_or_push missing count 0 op (sym here), here, is_among-above order (length missing) s.in_rank, ne-eqb count 0 some) refl
      ];
      in_rank = begin-in_rank;
      once = s.once;
      deep = s.deep;
    }

    begin-fresh : is_among order (length missing) ≡ false
    begin-fresh = is_among-above order (length missing) s.in_rank

    -- an operation without needs is listed
    pub IsSearch-ready : count ≡ 0 → IsSearch plans rank (missing ++ count ∷ []) (order ++ length missing ∷ []) 0 []
    unfolding is_among
    IsSearch-ready none =
        let longer = length_push missing count in
        let depth : HasDepth plans (op_id rank (length missing)) =
        HasDepth-from_needs plans rank [] (length missing) (λ k h. absurd (false≢true h)) (omega (arith, counts, none, unfinished-nil (needs plans (op_id rank (length missing))))) in
        record {
          counted = begin-counted;
          listed = λ op inside. elim (place_is_old_or_last missing count op inside) [
            | inl before ↦ rw (get_or_append_left missing (count ∷ []) 0 op before, is_among-push order (length missing) op, s.listed op before, ne-eqb (length missing) op (λ e. omega arith)) (or-false _)
            | inr here ↦ rw (get_or_push missing count 0 op (sym here), here, is_among-push order (length missing) (length missing), none, eq-eqb (length missing) (length missing) refl) (or-true _)
          ];
          in_rank = push-in_rank order (length missing) (length (missing ++ count ∷ [])) (omega arith) begin-in_rank;
          once = push-once order (length missing) begin-fresh s.once;
          deep = push-deep order (length missing) depth s.deep;
        }

  -- a need of one operation is a dependency that waits on another
  count_of-waiting_on : (x e : ℕ) → count_of (waiting_on plans (op_id rank e)) x ≡ count_of (needs plans (op_id rank x)) e
  count_of-waiting_on x e =
      rw (← row-waiting_on plans (op_id rank e), ← row-needs plans (op_id rank x)) (count_of-rows (deps_at plans rank) x e)

  -- another entry w of the row of the operation that is being finished
  module _ (missing order : List ℕ) (done j : ℕ) (w : Need) (waiting : List Need) (s : IsSearch plans rank missing order done (take j waiting)) (next : done < length order) (waiting_is : waiting ≡ waiting_on plans (op_id rank (get_or order done 0))) (inside : j < length waiting) (w_is : w ≡ get_or waiting j w) (in_rank : w.op < length missing) where
    step-seen : take (j + 1) waiting ≡ take j waiting ++ w ∷ []
    step-seen = take_more waiting j w inside ∙ ap (λ d. take j waiting ++ d ∷ []) (sym w_is)

    step-count : (op : ℕ) → count_of (take (j + 1) waiting) op ≡ count_of (take j waiting) op + (if eqb w.op op then 1 else 0)
    step-count op = rw step-seen (count_of-push (take j waiting) w op)

    -- what is unfinished once the operation is finished
    step-unfinished : (op : ℕ) → unfinished (take (done + 1) order) (needs plans (op_id rank op)) + count_of waiting op ≡ unfinished (take done order) (needs plans (op_id rank op))
    step-unfinished op =
        rw (waiting_is, count_of-waiting_on op (get_or order done 0), take_more order done 0 next)
        (unfinished-push (take done order) (get_or order done 0) (needs plans (op_id rank op)) (s.once done next))

    -- it still misses something
    pub step-positive : 0 < get_or missing w.op 0
    step-positive =
        let this = rw (eq-eqb w.op w.op refl) at (step-count w.op) in
        omega (arith, this, s.counted w.op in_rank, step-unfinished w.op, count_of-take-le waiting (j + 1) w.op)

    step-counted : (op : ℕ) → op < length (set missing w.op (get_or missing w.op 0 - 1)) → get_or (set missing w.op (get_or missing w.op 0 - 1)) op 0 + count_of (take (j + 1) waiting) op ≡ unfinished (take done order) (needs plans (op_id rank op))
    step-counted op within = elim (cases_eq op w.op) [
      | inl same ↦
          let this = rw (eq-eqb w.op w.op refl) at (step-count w.op) in
          rw (same, get_or-set_same missing w.op (get_or missing w.op 0 - 1) 0 in_rank) (omega (arith, this, s.counted w.op in_rank, step-positive))
      | inr other ↦
          let that = rw (ne-eqb w.op op (λ e. other (sym e))) at (step-count op) in
          let size = length-set missing w.op (get_or missing w.op 0 - 1) in
          rw (get_or-set_other missing w.op op (get_or missing w.op 0 - 1) 0 other) (omega (arith, that, s.counted op (omega arith)))
    ]

    step-in_rank : (k : ℕ) → k < length order → get_or order k 0 < length (set missing w.op (get_or missing w.op 0 - 1))
    step-in_rank k within = omega (arith, s.in_rank k within, length-set missing w.op (get_or missing w.op 0 - 1))

    -- it still misses something
    pub IsSearch-step_waits : (get_or missing w.op 0 - 1 ≡ 0 → ⊥) → IsSearch plans rank (set missing w.op (get_or missing w.op 0 - 1)) order done (take (j + 1) waiting)
    IsSearch-step_waits some = record {
      counted = step-counted;
      listed = λ op within. elim (cases_eq op w.op) [
        | inl same ↦
            let before = rw (ne-eqb (get_or missing w.op 0) 0 (λ e. omega (arith, step-positive))) at (s.listed w.op in_rank) in
            rw (same, get_or-set_same missing w.op (get_or missing w.op 0 - 1) 0 in_rank, before, ne-eqb (get_or missing w.op 0 - 1) 0 some) refl
        | inr other ↦
            let size = length-set missing w.op (get_or missing w.op 0 - 1) in
            rw (get_or-set_other missing w.op op (get_or missing w.op 0 - 1) 0 other) (s.listed op (omega arith))
      ];
      in_rank = step-in_rank;
      once = s.once;
      deep = s.deep;
    }

    step-fresh : is_among order w.op ≡ false
    step-fresh = s.listed w.op in_rank ∙ ne-eqb (get_or missing w.op 0) 0 (λ e. omega (arith, step-positive))

    -- it misses nothing now, and is listed
    pub IsSearch-step_ready : get_or missing w.op 0 - 1 ≡ 0 → IsSearch plans rank (set missing w.op (get_or missing w.op 0 - 1)) (order ++ w.op ∷ []) done (take (j + 1) waiting)
    IsSearch-step_ready none =
        let size = length-set missing w.op (get_or missing w.op 0 - 1) in
        let counted = step-counted w.op (omega (arith, in_rank)) in
        let this = rw (get_or-set_same missing w.op (get_or missing w.op 0 - 1) 0 in_rank) at counted in
        let rest : unfinished (take (done + 1) order) (needs plans (op_id rank w.op)) ≡ 0 = omega (arith, this, none, step-unfinished w.op, count_of-take-le waiting (j + 1) w.op) in
        let depth = HasDepth-from_needs plans rank (take (done + 1) order) w.op (listed_operation_has_depth missing order done (done + 1) (take j waiting) s (omega (arith, next))) rest in
        record {
          counted = rw (take-append-le done order (w.op ∷ []) (omega (arith, next))) step-counted;
          listed = λ op within. elim (cases_eq op w.op) [
            | inl same ↦
                rw (same, get_or-set_same missing w.op (get_or missing w.op 0 - 1) 0 in_rank, is_among-push order w.op w.op, eq-eqb w.op w.op refl, none) (or-true _)
            | inr other ↦
                rw (get_or-set_other missing w.op op (get_or missing w.op 0 - 1) 0 other, is_among-push order w.op op, ne-eqb w.op op (λ e. other (sym e)), s.listed op (omega (arith, within))) (or-false _)
          ];
          in_rank = push-in_rank order w.op (length (set missing w.op (get_or missing w.op 0 - 1))) (omega (arith, in_rank)) step-in_rank;
          once = push-once order w.op step-fresh s.once;
          deep = push-deep order w.op depth s.deep;
        }

  -- an operation whose whole row was seen is finished
  pub IsSearch-finish : (missing order : List ℕ) (done : ℕ) (waiting : List Need) → IsSearch plans rank missing order done waiting → done < length order → waiting ≡ waiting_on plans (op_id rank (get_or order done 0)) → IsSearch plans rank missing order (done + 1) []
  IsSearch-finish missing order done waiting s next waiting_is = record {
    counted = λ op inside.
        let e = get_or order done 0 in
        let more = unfinished-push (take done order) e (needs plans (op_id rank op)) (s.once done next) in
        let dual = rw (← waiting_is) at (count_of-waiting_on op e) in
        rw (take_more order done 0 next) (omega (arith, s.counted op inside, more, dual, count_of-nil op));
    listed = s.listed;
    in_rank = s.in_rank;
    once = s.once;
    deep = s.deep;
  }

  -- once all listed operations are finished, those that miss nothing have a depth, and the others have none
  module _ (missing order : List ℕ) (done : ℕ) (s : IsSearch plans rank missing order done []) (ended : length order ≤ done) where
    pub IsSearch-deep : (op : ℕ) → op < length missing → get_or missing op 0 ≡ 0 → HasDepth plans (op_id rank op)
    IsSearch-deep op inside none =
        let listed = rw none at (s.listed op inside) in
        listed_operation_has_depth missing order done (length order) [] s (omega arith) op (rw (take_all (length order) order (omega arith)) listed)

    pub IsSearch-stuck : ((op : ℕ) → list_all (λ (d : Need). ltb d.op (length missing)) (needs plans (op_id rank op)) ≡ true) → (op : ℕ) → op < length missing → 0 < get_or missing op 0 → HasDepth plans (op_id rank op) → ⊥
    IsSearch-stuck in_range op inside some depth =
        let absent : is_among order op ≡ false = s.listed op inside ∙ ne-eqb (get_or missing op 0) 0 (λ e. omega arith) in
        let no_bound = needing_each_other_no_depth plans rank order (length missing) waits in_range depth.bound op inside absent in
        false≢true (sym no_bound ∙ depth.below)
      where
        waits : (k : ℕ) → k < length missing → is_among order k ≡ false → 0 < unfinished order (needs plans (op_id rank k))
        waits k below absent =
            let counted = rw (take_all done order ended) at (s.counted k below) in
            let listed = sym absent ∙ s.listed k below in
            elim (cases_eq (get_or missing k 0) 0) [
              | inl none ↦ absurd (false≢true (listed ∙ eq-eqb (get_or missing k 0) 0 none))
              | inr positive ↦ omega arith
            ]

-- a value of the type, for a read past the end
abbrev pub no_need : Need
no_need = record { op = 0; when = AfterEnd }

-- the same at what the code reads: entry j of the row of operation op, which is the next to be finished
module _ (plans : List Plan) (plain : plain_fault plans ≡ None) (rank : ℕ) (rank_in : rank < length plans) (missing order : List ℕ) (done j op : ℕ) (waiting : List Need) (s : IsSearch plans rank missing order done (take j waiting)) (covers : CoversRank plans rank missing) (next : done < length order) (here : get_or order done 0 ≡ op) (waiting_is : waiting ≡ waiting_on plans (op_id rank op)) (inside : j < length waiting) where
  pub entry-in_rank : (get_or waiting j no_need).op < length missing
  entry-in_rank =
      let within : j < length (waiting_on plans (op_id rank op)) = rw waiting_is at inside in
      rw (waiting_is, covers no_plan) (waiting_on-in_range plans plain rank rank_in op j no_need within)

  pub entry-positive : 0 < get_or missing (get_or waiting j no_need).op 0
  entry-positive =
      step-positive plans rank missing order done j (get_or waiting j no_need) waiting s next (rw here waiting_is) inside (get_or_default waiting j no_need (get_or waiting j no_need) inside) entry-in_rank

  pub entry-waits : (get_or missing (get_or waiting j no_need).op 0 - 1 ≡ 0 → ⊥) → IsSearch plans rank (set missing (get_or waiting j no_need).op (get_or missing (get_or waiting j no_need).op 0 - 1)) order done (take (j + 1) waiting)
  entry-waits =
      IsSearch-step_waits plans rank missing order done j (get_or waiting j no_need) waiting s next (rw here waiting_is) inside (get_or_default waiting j no_need (get_or waiting j no_need) inside) entry-in_rank

  pub entry-ready : get_or missing (get_or waiting j no_need).op 0 - 1 ≡ 0 → IsSearch plans rank (set missing (get_or waiting j no_need).op (get_or missing (get_or waiting j no_need).op 0 - 1)) (order ++ (get_or waiting j no_need).op ∷ []) done (take (j + 1) waiting)
  entry-ready =
      IsSearch-step_ready plans rank missing order done j (get_or waiting j no_need) waiting s next (rw here waiting_is) inside (get_or_default waiting j no_need (get_or waiting j no_need) inside) entry-in_rank

  -- the number missing in all falls by one
  pub entry-sum : sum (set missing (get_or waiting j no_need).op (get_or missing (get_or waiting j no_need).op 0 - 1)) + 1 ≡ sum missing
  entry-sum =
      let changed = sum_by-set (λ (n : ℕ). n) missing (get_or waiting j no_need).op (get_or missing (get_or waiting j no_need).op 0 - 1) 0 entry-in_rank in
      omega (arith, changed, entry-positive)

-- the first operation that misses something is the first without a depth
module _ (plans : List Plan) (plain : plain_fault plans ≡ None) (rank : ℕ) (rank_in : rank < length plans) (missing order : List ℕ) (done : ℕ) (s : IsSearch plans rank missing order done []) (covers : CoversRank plans rank missing) (ended : length order ≤ done) where
  located-below : (op : ℕ) → IsOp plans (op_id rank op) → op < length missing
  located-below op is_op = rw (covers no_plan) ((IsOp-located plans (op_id rank op) is_op).op_in no_plan)

  pub first_in_rank : (answer : Option ℕ) → IsFirstMissing missing answer → IsFirstInRank plans rank answer
  first_in_rank None first = λ op is_op. let below = located-below op is_op in IsSearch-deep plans rank missing order done s ended op below (first op below)
  first_in_rank (Some op) first =
      let in_range : (k : ℕ) → list_all (λ (d : Need). ltb d.op (length missing)) (needs plans (op_id rank k)) ≡ true =
      λ k. rw (covers no_plan) (needs-in_range plans plain rank rank_in k) in (
        IsOp-below plans (op_id rank op) rank_in (rw (← covers no_plan) first.0),
        IsSearch-stuck plans rank missing order done s ended in_range op first.0 first.1,
        λ k lesser. IsSearch-deep plans rank missing order done s ended k (omega (arith, first.0)) (first.2 k lesser),
      )
