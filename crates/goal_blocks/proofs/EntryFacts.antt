-- What the entries of a schedule say of its operations: what they are, what they need, which slots they move and add.
use Rattle.std.proofs.Common.{◌≡◌, ◌≢◌, ◌⊎◌, ℕ, zero, suc, ◌+◌, ◌-◌, ◌<◌, ◌≤◌, eqb, Bool, true, false, List, [], ◌∷◌, ◌++◌, map, length, Some, inl, inr, refl, sym, ap, ◌∙◌, arith, add-one, zero-add, slice_get}
use Rattle.std.specs.List.{flat_map, range_with_len, filter}
use Rattle.std.proofs.lemmas.Bool.{cases_lt}
use Rattle.std.proofs.lemmas.Bool.Decides.{nat_tests}
use Rattle.std.proofs.lemmas.Grind.{flat_map-append}
use Rattle.std.proofs.lemmas.List.{append-nil}
use Rattle.std.proofs.lemmas.List.Concat.{flat_map-cons}
use Rattle.std.proofs.lemmas.List.Elements.{filter-append}
use Rattle.std.proofs.lemmas.List.FromFn.{length-map-range_with_len, get_or-map-range_with_len}
use Rattle.std.proofs.lemmas.Option.{slice_get-get_or, slice_get_past, same_Some}
use Rattle.goal_graph.specs.declared.action.OpId.{OpId}
use Rattle.goal_graph.specs.declared.plan.Kind.{Kind}
use Rattle.goal_graph.specs.declared.plan.Dep.{Dep}
use Rattle.goal_graph.specs.declared.plan.Note.TheVariants.{Moves, Adds}
use Rattle.goal_graph.specs.declared.plan.When.TheVariants.{AfterEnd}
use Rattle.goal_graph.specs.Schedule.{Plan, op_at, kind_at, deps_at, needs, earlier_of}
use Rattle.goal_blocks.specs.Slots.{Adding, slots_from, notes_at, moved_by, added_by, slots, adds}
use Rattle.goal_blocks.specs.Entries.{Entry, Span, op_of, deps_of, notes_of, plan_by, made_by}
use Rattle.goal_blocks.proofs.PlanBy.{flat_map_of_next_range}

-- lists of which one place alone has items

flat_map-flat_map : {X Y Z : Type 0} (g : Y → List Z) (f : X → List Y) (xs : List X) → flat_map g (flat_map f xs) ≡ flat_map (λ x. flat_map g (f x)) xs
flat_map-flat_map g f [] = refl
flat_map-flat_map g f (x ∷ xs) =
    rw (flat_map-cons f x xs, flat_map-append g (f x) (flat_map f xs), flat_map-cons (λ x. flat_map g (f x)) x xs, flat_map-flat_map g f xs) refl

filter-flat_map : {X Y : Type 0} (p : Y → Bool) (f : X → List Y) (xs : List X) → filter p (flat_map f xs) ≡ flat_map (λ x. filter p (f x)) xs
filter-flat_map p f [] = refl
filter-flat_map p f (x ∷ xs) =
    rw (flat_map-cons f x xs, filter-append p (f x) (flat_map f xs), flat_map-cons (λ x. filter p (f x)) x xs, filter-flat_map p f xs) refl

flat_map_of_next_number : {X : Type 0} (h : ℕ → List X) (n : ℕ) → flat_map h (range_with_len 0 (suc n)) ≡ flat_map h (range_with_len 0 n) ++ h n
flat_map_of_next_number h n = ap (λ (m : ℕ). flat_map h (range_with_len 0 m)) (sym (add-one n)) ∙ flat_map_of_next_range h n

flat_map_of_empty_lists : {X : Type 0} (h : ℕ → List X) (n : ℕ) → ((j : ℕ) → j < n → h j ≡ []) → flat_map h (range_with_len 0 n) ≡ []
flat_map_of_empty_lists h zero none = refl
flat_map_of_empty_lists h (suc n) none = flat_map_of_next_number h n ∙ rw (flat_map_of_empty_lists h n (λ j l. none j (omega arith)), none n (omega arith)) refl

flat_map_of_only_nonempty : {X : Type 0} (h : ℕ → List X) (i n : ℕ) → ((j : ℕ) → j ≢ i → h j ≡ []) → i < n → flat_map h (range_with_len 0 n) ≡ h i
flat_map_of_only_nonempty h i zero others inside = absurd (omega arith)
flat_map_of_only_nonempty h i (suc n) others inside = go (cases_lt i n) (flat_map_of_only_nonempty h i n others)
  where
    go : (i < n) ⊎ (n ≤ i) → (i < n → flat_map h (range_with_len 0 n) ≡ h i) → flat_map h (range_with_len 0 (suc n)) ≡ h i
    go (inl lt) rest = flat_map_of_next_number h n ∙ rw (rest lt, others n (λ same. omega arith)) (append-nil (h i))
    go (inr le) rest =
        let last : n ≡ i = omega arith in
        flat_map_of_next_number h n ∙ rw (flat_map_of_empty_lists h n (λ j l. others j (λ same. omega arith))) (ap h last)

-- the dependencies and notes of an operation are those of its number

deps_of_own : (i : ℕ) (ks : List ℕ) → map earlier_of (filter (λ (d : Dep). eqb d.later i) (map (λ (k : ℕ). record { later = i; earlier = k; when = AfterEnd }) ks)) ≡ map (λ (k : ℕ). record { op = k; when = AfterEnd }) ks
deps_of_own i [] = refl
deps_of_own i (k ∷ ks) =
    let same : eqb i i ≡ true = grind (arith, nat_tests) in
    rw (same, deps_of_own i ks) refl

deps_of_others : (i j : ℕ) → j ≢ i → (ks : List ℕ) → filter (λ (d : Dep). eqb d.later i) (map (λ (k : ℕ). record { later = j; earlier = k; when = AfterEnd }) ks) ≡ []
deps_of_others i j other [] = refl
deps_of_others i j other (k ∷ ks) =
    let apart : eqb j i ≡ false = grind (arith, nat_tests) in
    rw (apart, deps_of_others i j other ks) refl

-- the slots of a span
abbrev pub slots_of_span : Span → List ℕ
slots_of_span s = slots_from s.lo (s.hi + 1 - s.lo)

moves_of_own : (i : ℕ) (ss : List Span) → flat_map (moved_by i) (map (λ (s : Span). Moves i s.lo s.hi) ss) ≡ flat_map slots_of_span ss
moves_of_own i [] = refl
moves_of_own i (s ∷ ss) =
    let same : eqb i i ≡ true = grind (arith, nat_tests) in
    rw (flat_map-cons (moved_by i) (Moves i s.lo s.hi) (map (λ (s : Span). Moves i s.lo s.hi) ss), flat_map-cons slots_of_span s ss, same, moves_of_own i ss) refl

moves_of_others : (i j : ℕ) → j ≢ i → (ss : List Span) → flat_map (moved_by i) (map (λ (s : Span). Moves j s.lo s.hi) ss) ≡ []
moves_of_others i j other [] = refl
moves_of_others i j other (s ∷ ss) =
    let apart : eqb j i ≡ false = grind (arith, nat_tests) in
    rw (flat_map-cons (moved_by i) (Moves j s.lo s.hi) (map (λ (s : Span). Moves j s.lo s.hi) ss), apart, moves_of_others i j other ss) refl

moves_of_adds : (i j : ℕ) (xs : List Adding) → flat_map (moved_by i) (map (λ (a : Adding). Adds j a.from a.to) xs) ≡ []
moves_of_adds i j [] = refl
moves_of_adds i j (a ∷ xs) =
    rw (flat_map-cons (moved_by i) (Adds j a.from a.to) (map (λ (a : Adding). Adds j a.from a.to) xs), moves_of_adds i j xs) refl

adds_of_own : (i : ℕ) (xs : List Adding) → flat_map (added_by i) (map (λ (a : Adding). Adds i a.from a.to) xs) ≡ xs
adds_of_own i [] = refl
adds_of_own i (a ∷ xs) =
    let same : eqb i i ≡ true = grind (arith, nat_tests) in
    rw (flat_map-cons (added_by i) (Adds i a.from a.to) (map (λ (a : Adding). Adds i a.from a.to) xs), same, adds_of_own i xs) refl

adds_of_others : (i j : ℕ) → j ≢ i → (xs : List Adding) → flat_map (added_by i) (map (λ (a : Adding). Adds j a.from a.to) xs) ≡ []
adds_of_others i j other [] = refl
adds_of_others i j other (a ∷ xs) =
    let apart : eqb j i ≡ false = grind (arith, nat_tests) in
    rw (flat_map-cons (added_by i) (Adds j a.from a.to) (map (λ (a : Adding). Adds j a.from a.to) xs), apart, adds_of_others i j other xs) refl

adds_of_moves : (i j : ℕ) (ss : List Span) → flat_map (added_by i) (map (λ (s : Span). Moves j s.lo s.hi) ss) ≡ []
adds_of_moves i j [] = refl
adds_of_moves i j (s ∷ ss) =
    rw (flat_map-cons (added_by i) (Moves j s.lo s.hi) (map (λ (s : Span). Moves j s.lo s.hi) ss), adds_of_moves i j ss) refl

module _ (i j : ℕ) (e : Entry) where
  moves_at_own : flat_map (moved_by i) (notes_of i e) ≡ flat_map slots_of_span e.moves
  moves_at_own =
      flat_map-append (moved_by i) (map (λ (s : Span). Moves i s.lo s.hi) e.moves) (map (λ (a : Adding). Adds i a.from a.to) e.adds)
      ∙ rw (moves_of_own i e.moves, moves_of_adds i i e.adds) (append-nil (flat_map slots_of_span e.moves))

  moves_at_others : j ≢ i → flat_map (moved_by i) (notes_of j e) ≡ []
  moves_at_others other =
      flat_map-append (moved_by i) (map (λ (s : Span). Moves j s.lo s.hi) e.moves) (map (λ (a : Adding). Adds j a.from a.to) e.adds)
      ∙ rw (moves_of_others i j other e.moves, moves_of_adds i j e.adds) refl

  adds_at_own : flat_map (added_by i) (notes_of i e) ≡ e.adds
  adds_at_own =
      flat_map-append (added_by i) (map (λ (s : Span). Moves i s.lo s.hi) e.moves) (map (λ (a : Adding). Adds i a.from a.to) e.adds)
      ∙ rw (adds_of_moves i i e.moves, adds_of_own i e.adds) refl

  adds_at_others : j ≢ i → flat_map (added_by i) (notes_of j e) ≡ []
  adds_at_others other =
      flat_map-append (added_by i) (map (λ (s : Span). Moves j s.lo s.hi) e.moves) (map (λ (a : Adding). Adds j a.from a.to) e.adds)
      ∙ rw (adds_of_moves i j e.moves, adds_of_others i j other e.adds) refl

pub length_ops_by : (n : ℕ) (e : ℕ → Entry) → length (plan_by n e).ops ≡ n
unfolding plan_by
length_ops_by n e = length-map-range_with_len (λ (i : ℕ). op_of (e i)) 0 n

module _ (ranks : ℕ) (count : ℕ → ℕ) (e : ℕ → ℕ → Entry) where
  abbrev plans : List Plan
  plans = made_by ranks count e

  made_plan_of_rank : (r : ℕ) → r < ranks → slice_get plans r ≡ Some (plan_by (count r) (e r))
  unfolding made_by
  made_plan_of_rank r inside =
      let size = length-map-range_with_len (λ (r : ℕ). plan_by (count r) (e r)) 0 ranks in
      slice_get-get_or (map (λ (r : ℕ). plan_by (count r) (e r)) (range_with_len 0 ranks)) r (plan_by (count r) (e r)) (omega arith)
      ∙ ap Some (get_or-map-range_with_len (λ (r : ℕ). plan_by (count r) (e r)) 0 ranks r r (plan_by (count r) (e r)) inside (zero-add r))

  made_op_of_entry : (r i : ℕ) → i < count r → slice_get (plan_by (count r) (e r)).ops i ≡ Some (op_of (e r i))
  unfolding plan_by
  made_op_of_entry r i inside =
      let size = length-map-range_with_len (λ (i : ℕ). op_of (e r i)) 0 (count r) in
      slice_get-get_or (map (λ (i : ℕ). op_of (e r i)) (range_with_len 0 (count r))) i (op_of (e r i)) (omega arith)
      ∙ ap Some (get_or-map-range_with_len (λ (i : ℕ). op_of (e r i)) 0 (count r) i i (op_of (e r i)) inside (zero-add i))

  module _ (r i : ℕ) (in_rank : r < ranks) (inside : i < count r) where
    -- what it is
    pub kind_there : kind_at plans (record { rank = r; op = i }) ≡ Some (e r i).kind
    unfolding kind_at op_at
    kind_there = rw (made_plan_of_rank r in_rank, made_op_of_entry r i inside) refl

    -- what it needs
    pub needs_there : needs plans (record { rank = r; op = i }) ≡ map (λ (k : ℕ). record { op = k; when = AfterEnd }) (e r i).needs
    unfolding needs deps_at plan_by
    needs_there =
        rw (made_plan_of_rank r in_rank, filter-flat_map (λ (d : Dep). eqb d.later i) (λ (j : ℕ). deps_of j (e r j)) (range_with_len 0 (count r)), flat_map_of_only_nonempty (λ (j : ℕ). filter (λ (d : Dep). eqb d.later i) (deps_of j (e r j))) i (count r) (λ j other. deps_of_others i j other (e r j).needs) inside)
        (deps_of_own i (e r i).needs)

    -- the slots that it moves, and what it adds
    pub slots_there : slots plans (record { rank = r; op = i }) ≡ flat_map slots_of_span (e r i).moves
    unfolding slots notes_at plan_by
    slots_there =
        rw (made_plan_of_rank r in_rank, flat_map-flat_map (moved_by i) (λ (j : ℕ). notes_of j (e r j)) (range_with_len 0 (count r)), flat_map_of_only_nonempty (λ (j : ℕ). flat_map (moved_by i) (notes_of j (e r j))) i (count r) (λ j other. moves_at_others i j (e r j) other) inside)
        (moves_at_own i i (e r i))

    pub adds_there : adds plans (record { rank = r; op = i }) ≡ (e r i).adds
    unfolding adds notes_at plan_by
    adds_there =
        rw (made_plan_of_rank r in_rank, flat_map-flat_map (added_by i) (λ (j : ℕ). notes_of j (e r j)) (range_with_len 0 (count r)), flat_map_of_only_nonempty (λ (j : ℕ). flat_map (added_by i) (notes_of j (e r j))) i (count r) (λ j other. adds_at_others i j (e r j) other) inside)
        (adds_at_own i i (e r i))

  -- an operation that is there is one of the entries
  pub record IsEntry (x : OpId) (k : Kind) : Type 0 where
    pub in_rank : x.rank < ranks
    pub inside : x.op < count x.rank
    pub is : (e x.rank x.op).kind ≡ k

  pub length_plans : length plans ≡ ranks
  unfolding made_by
  length_plans = length-map-range_with_len (λ (r : ℕ). plan_by (count r) (e r)) 0 ranks

  no_kind_past_ranks : (x : OpId) (k : Kind) → ranks ≤ x.rank → kind_at plans x ≡ Some k → ⊥
  unfolding kind_at op_at
  no_kind_past_ranks x k past h =
      let none = slice_get_past plans x.rank (omega (arith, length_plans)) in
      absurd (cc (rw none at h))

  no_kind_past_ops : (x : OpId) (k : Kind) → x.rank < ranks → count x.rank ≤ x.op → kind_at plans x ≡ Some k → ⊥
  unfolding kind_at op_at
  no_kind_past_ops x k in_rank past h =
      let none = slice_get_past (plan_by (count x.rank) (e x.rank)).ops x.op (omega (arith, length_ops_by (count x.rank) (e x.rank))) in
      absurd (cc (rw (made_plan_of_rank x.rank in_rank, none) at h))

  pub kind_only : (x : OpId) (k : Kind) → kind_at plans x ≡ Some k → IsEntry x k
  kind_only x k h = go (cases_lt x.rank ranks) (cases_lt x.op (count x.rank))
    where
      go : (x.rank < ranks) ⊎ (ranks ≤ x.rank) → (x.op < count x.rank) ⊎ (count x.rank ≤ x.op) → IsEntry x k
      go (inr past) q = absurd (no_kind_past_ranks x k past h)
      go (inl in_rank) (inr past) = absurd (no_kind_past_ops x k in_rank past h)
      go (inl in_rank) (inl inside) = record { in_rank = in_rank; inside = inside; is = same_Some _ _ (sym (kind_there x.rank x.op in_rank inside) ∙ h) }
