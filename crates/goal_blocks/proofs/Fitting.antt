-- A schedule of entries that fit is accepted.
use Rattle.std.proofs.Common.{◌≡◌, ℕ, zero, suc, ◌+◌, ◌<◌, ◌≤◌, ◌&&◌, eqb, ltb, true, false, List, [], ◌∷◌, map, length, get_or, Option, Some, None, inl, inr, All, refl, ap, ◌∙◌, subst, arith, zero-add, length-append, slice_get}
use Rattle.std.specs.List.{flat_map, range_with_len, list_all, filter, sum_by}
use Rattle.std.proofs.lemmas.Bool.{le-leb}
use Rattle.std.proofs.lemmas.Bool.Decides.{nat_tests}
use Rattle.std.proofs.lemmas.List.Concat.{flat_map-cons, length-flat_map}
use Rattle.std.proofs.lemmas.List.Elements.{All-append, All-filter, All-map, All-head, All-tail, filter_passes}
use Rattle.std.proofs.lemmas.List.FromFn.{length-range_with_len, get_or-range_with_len, length-map-range_with_len, get_or-map-range_with_len}
use Rattle.std.proofs.lemmas.Option.{slice_get-get_or, slice_get_cases}
use Rattle.std.proofs.lemmas.List.{length-map}
use Rattle.std.proofs.lemmas.List.Sums.{sum_by-cons}
use Rattle.goal_graph.specs.declared.plan.When.TheVariants.{AfterEnd}
use Rattle.goal_limits.specs.declared.limits.TheConstants.{MAX_RANKS, MAX_OPS, MAX_DEPS, MAX_NOTES}
use Rattle.goal_graph.specs.declared.action.OpId.{OpId}
use Rattle.goal_graph.specs.declared.fault.PlanFault.{PlanFault}
use Rattle.goal_graph.specs.declared.plan.Op.{Op}
use Rattle.goal_graph.specs.declared.plan.Dep.{Dep}
use Rattle.goal_graph.specs.declared.plan.Need.{Need}
use Rattle.goal_graph.specs.declared.plan.Note.{Note}
use Rattle.goal_graph.specs.declared.plan.Note.TheVariants.{Moves, Adds}
use Rattle.goal_graph.specs.Schedule.{Plan, deps_at, needs, needed, earlier_of}
use Rattle.goal_graph.specs.Fault.{value_fits, has_peer, is_calc, dep_in_range, note_fits, op_fault, dep_fault, note_fault, first_fault, rank_fault, count_fault, count_over, op_count, dep_count, note_count, plain_fault, is_below, HasDepth, IsAccepted}
use Rattle.goal_blocks.specs.Slots.{Adding}
use Rattle.goal_blocks.specs.Entries.{Entry, Span, op_of, deps_of, notes_of, plan_by, made_by}
use Rattle.goal_blocks.specs.Fitting.{IsFitting, AreFitting, need_total, note_total}
use Rattle.goal_blocks.proofs.EntryFacts.{length_ops_by, length_plans}

-- if P holds throughout the list of each item, then it holds throughout their concatenation
pub All-flat_map : {X Y : Type 0} (P : Y → Type 0) (f : X → List Y) (xs : List X) → All (λ x. All P (f x)) xs → All P (flat_map f xs)
All-flat_map P f [] h = λ k d inside. absurd (omega arith)
All-flat_map P f (x ∷ xs) h =
    rw (flat_map-cons f x xs) (All-append P (f x) (flat_map f xs) (All-head (λ x. All P (f x)) x xs h) (All-flat_map P f xs (All-tail (λ x. All P (f x)) x xs h)))

-- if P holds of each number below n, then it holds throughout the range from 0 to n
pub All-range : (P : ℕ → Type 0) (n : ℕ) → ((i : ℕ) → i < n → P i) → All P (range_with_len 0 n)
All-range P n h k d inside =
    let size = length-range_with_len 0 n in
    let below : k < n = omega arith in
    rw (get_or-range_with_len 0 n k d below, zero-add k) (h k below)

pub sum_by-map : {X Y : Type 0} (f : Y → ℕ) (g : X → Y) (xs : List X) → sum_by f (map g xs) ≡ sum_by (λ x. f (g x)) xs
sum_by-map f g [] = refl
sum_by-map f g (x ∷ xs) = rw (sum_by-cons f (g x) (map g xs), sum_by-cons (λ x. f (g x)) x xs, sum_by-map f g xs) refl

-- if no item has a fault, then the list has none
pub first_fault-of_none : {A : Type 0} (P : A → Type 0) (fault : ℕ → A → Option PlanFault) → ((n : ℕ) (x : A) → P x → fault n x ≡ None) → (n : ℕ) (xs : List A) → All P xs → first_fault fault n xs ≡ None
unfolding first_fault
first_fault-of_none P fault none n [] h = refl
first_fault-of_none P fault none n (x ∷ xs) h =
    rw (none n x (All-head P x xs h)) (first_fault-of_none P fault none (n + 1) xs (All-tail P x xs h))

-- where each dependency of a schedule goes to a lower number, each operation has a depth
module _ (plans : List Plan) (lower : All (λ (p : Plan). All (λ (d : Dep). d.earlier < d.later) p.deps) plans) where
  deps_lower : (rank : ℕ) → All (λ (d : Dep). d.earlier < d.later) (deps_at plans rank)
  unfolding deps_at
  deps_lower rank = elim (slice_get_cases plans rank).1 [
    | inl at ↦ rw at.2 (subst (λ (p : Plan). All (λ (d : Dep). d.earlier < d.later) p.deps) at.3 (lower rank at.0 at.1))
    | inr past ↦ rw past.1 (λ k d inside. absurd (omega arith))
  ]

  needs_are_below_bound : (n : ℕ) (x : OpId) → ((y : OpId) → y.op < n → is_below plans n y ≡ true) → x.op ≤ n → (ds : List Dep) → All (λ (d : Dep). d.earlier < d.later) ds → All (λ (d : Dep). eqb d.later x.op ≡ true) ds → list_all (λ (d : Need). is_below plans n (needed x d)) (map earlier_of ds) ≡ true
  needs_are_below_bound n x deep le [] a b = refl
  needs_are_below_bound n x deep le (d ∷ ds) a b =
      let here = All-head (λ (d : Dep). d.earlier < d.later) d ds a in
      let same = All-head (λ (d : Dep). eqb d.later x.op ≡ true) d ds b in
      let small : d.earlier < n = grind (arith, nat_tests) in
      rw (deep (needed x (earlier_of d)) small) (needs_are_below_bound n x deep le ds (All-tail (λ (d : Dep). d.earlier < d.later) d ds a) (All-tail (λ (d : Dep). eqb d.later x.op ≡ true) d ds b))

  operation_is_below_bound : (n : ℕ) (x : OpId) → x.op < n → is_below plans n x ≡ true
  unfolding is_below needs
  operation_is_below_bound zero x lt = absurd (omega arith)
  operation_is_below_bound (suc n) x lt =
      needs_are_below_bound n x (λ y l. operation_is_below_bound n y l) (omega arith) (filter (λ (d : Dep). eqb d.later x.op) (deps_at plans x.rank))
      (All-filter (λ (d : Dep). eqb d.later x.op) (λ (d : Dep). d.earlier < d.later) (deps_at plans x.rank) (deps_lower x.rank))
      (filter_passes (λ (d : Dep). eqb d.later x.op) (deps_at plans x.rank))

  pub lower_have_depths : (x : OpId) → HasDepth plans x
  lower_have_depths x = record { bound = suc x.op; below = operation_is_below_bound (suc x.op) x (omega arith) }

-- the dependencies and notes of an entry that fits, in a rank of n operations
module _ (ranks n i : ℕ) (e : Entry) (inside : i < n) (fit : IsFitting ranks i e) where
  entry_deps : All (λ (d : Dep). (dep_in_range n d ≡ true) × (d.earlier < d.later)) (deps_of i e)
  entry_deps = All-map (λ (d : Dep). (dep_in_range n d ≡ true) × (d.earlier < d.later)) _ e.needs go
    where
      in_range : (k : ℕ) → k < i → (ltb i n && ltb k n) ≡ true
      in_range k below =
          let a : ltb i n ≡ true = grind (arith, nat_tests) in
          let b : ltb k n ≡ true = grind (arith, nat_tests) in
          rw (a, b) refl

      go : All (λ (k : ℕ). ((ltb i n && ltb k n) ≡ true) × (k < i)) e.needs
      go j d l = let below = fit.lower j d l in (in_range _ below, below)

  module _ (ops : List Op) (here : slice_get ops i ≡ Some (op_of e)) where
    move_fits : (s : Span) → (is_calc e.kind ≡ false) × (s.lo ≤ s.hi) → note_fits ops (Moves i s.lo s.hi) ≡ true
    move_fits s h =
        rw (here, h.0, le-leb s.lo s.hi h.1) refl

    add_fits : (a : Adding) → is_calc e.kind ≡ true → note_fits ops (Adds i a.from a.to) ≡ true
    add_fits a h = rw (here, h) refl

    entry_notes : All (λ (m : Note). note_fits ops m ≡ true) (notes_of i e)
    entry_notes =
        All-append (λ (m : Note). note_fits ops m ≡ true) _ _
        (All-map (λ (m : Note). note_fits ops m ≡ true) _ e.moves (λ k d l. move_fits (get_or e.moves k d) (fit.moves k d l)))
        (All-map (λ (m : Note). note_fits ops m ≡ true) _ e.adds (λ k d l. add_fits (get_or e.adds k d) (fit.adds k d l)))

module _ (ranks : ℕ) (count : ℕ → ℕ) (e : ℕ → ℕ → Entry) (fit : AreFitting ranks count e) where
  module _ (r : ℕ) (in_rank : r < ranks) where
    op_here : (i : ℕ) → i < count r → slice_get (plan_by (count r) (e r)).ops i ≡ Some (op_of (e r i))
    unfolding plan_by
    op_here i inside =
        let size = length-map-range_with_len (λ (i : ℕ). op_of (e r i)) 0 (count r) in
        slice_get-get_or (map (λ (i : ℕ). op_of (e r i)) (range_with_len 0 (count r))) i (op_of (e r i)) (omega arith)
        ∙ ap Some (get_or-map-range_with_len (λ (i : ℕ). op_of (e r i)) 0 (count r) i i (op_of (e r i)) inside (zero-add i))

    ops_fit : All (λ (o : Op). (value_fits o.kind o.nic ≡ true) × (has_peer ranks o.kind ≡ true)) (plan_by (count r) (e r)).ops
    unfolding plan_by
    ops_fit =
        All-map (λ (o : Op). (value_fits o.kind o.nic ≡ true) × (has_peer ranks o.kind ≡ true)) (λ (i : ℕ). op_of (e r i)) (range_with_len 0 (count r))
        (All-range (λ (i : ℕ). (value_fits (e r i).kind 0 ≡ true) × (has_peer ranks (e r i).kind ≡ true)) (count r) (λ i l. ((fit.each r i in_rank l).value, (fit.each r i in_rank l).peer)))

    deps_fit : All (λ (d : Dep). (dep_in_range (count r) d ≡ true) × (d.earlier < d.later)) (plan_by (count r) (e r)).deps
    unfolding plan_by
    deps_fit =
        All-flat_map (λ (d : Dep). (dep_in_range (count r) d ≡ true) × (d.earlier < d.later)) (λ (i : ℕ). deps_of i (e r i)) (range_with_len 0 (count r))
        (All-range (λ (i : ℕ). All (λ (d : Dep). (dep_in_range (count r) d ≡ true) × (d.earlier < d.later)) (deps_of i (e r i))) (count r) (λ i l. entry_deps ranks (count r) i (e r i) l (fit.each r i in_rank l)))

    notes_in : (ops : List Op) → ((i : ℕ) → i < count r → slice_get ops i ≡ Some (op_of (e r i))) → All (λ (m : Note). note_fits ops m ≡ true) (plan_by (count r) (e r)).notes
    unfolding plan_by
    notes_in ops here =
        All-flat_map (λ (m : Note). note_fits ops m ≡ true) (λ (i : ℕ). notes_of i (e r i)) (range_with_len 0 (count r))
        (All-range (λ (i : ℕ). All (λ (m : Note). note_fits ops m ≡ true) (notes_of i (e r i))) (count r) (λ i l. entry_notes ranks (count r) i (e r i) l (fit.each r i in_rank l) ops (here i l)))

    notes_fit : All (λ (m : Note). note_fits (plan_by (count r) (e r)).ops m ≡ true) (plan_by (count r) (e r)).notes
    notes_fit = notes_in (plan_by (count r) (e r)).ops op_here

    rank_fits : (n : ℕ) → rank_fault ranks n (plan_by (count r) (e r)) ≡ None
    unfolding rank_fault
    rank_fits n =
        rw (
          first_fault-of_none (λ (o : Op). (value_fits o.kind o.nic ≡ true) × (has_peer ranks o.kind ≡ true)) (op_fault ranks n) (λ k o h. rw (h.0, h.1) refl) 0 (plan_by (count r) (e r)).ops ops_fit,
          length_ops_by (count r) (e r),
          first_fault-of_none (λ (d : Dep). (dep_in_range (count r) d ≡ true) × (d.earlier < d.later)) (dep_fault (count r) n) (λ k d h. rw h.0 refl) 0 (plan_by (count r) (e r)).deps deps_fit,
          first_fault-of_none (λ (m : Note). note_fits (plan_by (count r) (e r)).ops m ≡ true) (note_fault (plan_by (count r) (e r)).ops n) (λ k m h. rw h refl) 0 (plan_by (count r) (e r)).notes notes_fit,
        ) refl

    deps_lower_in : All (λ (d : Dep). d.earlier < d.later) (plan_by (count r) (e r)).deps
    deps_lower_in k d l = (deps_fit k d l).1

  -- if P holds of the plan of each rank, then it holds of all plans
  All-made : (P : Plan → Type 0) → ((r : ℕ) → r < ranks → P (plan_by (count r) (e r))) → All P (made_by ranks count e)
  unfolding made_by
  All-made P h = All-map P (λ (r : ℕ). plan_by (count r) (e r)) (range_with_len 0 ranks) (All-range (λ (r : ℕ). P (plan_by (count r) (e r))) ranks h)

  -- a sum over the plans of all ranks
  sum_made : (f : Plan → ℕ) → sum_by f (made_by ranks count e) ≡ sum_by (λ (r : ℕ). f (plan_by (count r) (e r))) (range_with_len 0 ranks)
  unfolding made_by
  sum_made f = sum_by-map f (λ (r : ℕ). plan_by (count r) (e r)) (range_with_len 0 ranks)

  op_count_made : op_count (made_by ranks count e) ≡ sum_by count (range_with_len 0 ranks)
  unfolding op_count
  op_count_made =
      sum_made (λ (p : Plan). length p.ops)
      ∙ ap (λ (f : ℕ → ℕ). sum_by f (range_with_len 0 ranks)) (λ i r. length_ops_by (count r) (e r) i)

  length_deps : (r : ℕ) → length (plan_by (count r) (e r)).deps ≡ sum_by (λ (i : ℕ). length (e r i).needs) (range_with_len 0 (count r))
  unfolding plan_by
  length_deps r =
      length-flat_map (λ (i : ℕ). deps_of i (e r i)) (range_with_len 0 (count r))
      ∙ ap (λ (f : ℕ → ℕ). sum_by f (range_with_len 0 (count r))) (λ j i. length-map (e r i).needs (dep_to i) j)
    where
      dep_to : ℕ → ℕ → Dep
      dep_to i k = record { later = i; earlier = k; when = AfterEnd }

  dep_count_made : dep_count (made_by ranks count e) ≡ need_total ranks count e
  unfolding dep_count need_total
  dep_count_made =
      sum_made (λ (p : Plan). length p.deps)
      ∙ ap (λ (f : ℕ → ℕ). sum_by f (range_with_len 0 ranks)) (λ i r. length_deps r i)

  length_notes_of : (i : ℕ) (x : Entry) → length (notes_of i x) ≡ length x.moves + length x.adds
  length_notes_of i x = simp (length-append, length-map) refl

  length_notes : (r : ℕ) → length (plan_by (count r) (e r)).notes ≡ sum_by (λ (i : ℕ). length (e r i).moves + length (e r i).adds) (range_with_len 0 (count r))
  unfolding plan_by
  length_notes r =
      length-flat_map (λ (i : ℕ). notes_of i (e r i)) (range_with_len 0 (count r))
      ∙ ap (λ (f : ℕ → ℕ). sum_by f (range_with_len 0 (count r))) (λ j i. length_notes_of i (e r i) j)

  note_count_made : note_count (made_by ranks count e) ≡ note_total ranks count e
  unfolding note_count note_total
  note_count_made =
      sum_made (λ (p : Plan). length p.notes)
      ∙ ap (λ (f : ℕ → ℕ). sum_by f (range_with_len 0 ranks)) (λ i r. length_notes r i)

  no_count_over_limit : (limit found : ℕ) → found ≤ limit → count_over limit found ≡ None
  no_count_over_limit limit found h = grind (arith, nat_tests)

  made_counts_within_limits : count_fault (made_by ranks count e) ≡ None
  unfolding count_fault
  made_counts_within_limits =
      rw (length_plans ranks count e, op_count_made, dep_count_made, note_count_made, some ranks fit.some_rank, no_count_over_limit MAX_RANKS ranks fit.few_ranks, no_count_over_limit MAX_OPS _ fit.few_ops, no_count_over_limit MAX_DEPS _ fit.few_needs, no_count_over_limit MAX_NOTES _ fit.few_notes) refl
    where
      some : (n : ℕ) → 0 < n → eqb n 0 ≡ false
      some n h = grind (arith, nat_tests)

  made_has_no_plain_fault : plain_fault (made_by ranks count e) ≡ None
  unfolding plain_fault
  made_has_no_plain_fault =
      rw (made_counts_within_limits, length_plans ranks count e)
      (first_fault-of_none (λ (p : Plan). (n : ℕ) → rank_fault ranks n p ≡ None) (rank_fault ranks) (λ n p h. h n) 0 (made_by ranks count e) (All-made (λ (p : Plan). (n : ℕ) → rank_fault ranks n p ≡ None) (λ r l. rank_fits r l)))

  pub fitting_accepted : IsAccepted (made_by ranks count e)
  fitting_accepted = record {
    plain = made_has_no_plain_fault;
    depths = λ x is_op. lower_have_depths (made_by ranks count e) (All-made (λ (p : Plan). All (λ (d : Dep). d.earlier < d.later) p.deps) (λ r l. deps_lower_in r l)) x;
  }
