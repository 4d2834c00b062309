-- How many moments each operation still waits for after an action, and the last of those that it was given.
use Rattle.std.proofs.Common.{◌≡◌, ◌≢◌, ◌==◌, ◌&&◌, ◌+◌, ℕ, Bool, true, false, not, cond, max, List, [], ◌∷◌, ◌++◌, map, filter, count_by, if◌then◌else◌, ◌⊎◌, inl, inr, refl, sym, ap, ap₂, ◌∙◌, subst, arith}
use Rattle.std.proofs.lemmas.Bool.{and_left, and_right, cases_Bool, both_ways, cond-true, cond-false, eqb-true}
use Rattle.std.proofs.Math.Nat.{max-zero, zero-max}
use Rattle.goal_graph.specs.declared.action.OpId.{OpId}
use Rattle.goal_graph.specs.declared.action.Timed.{Timed}
use Rattle.goal_graph.specs.declared.action.Class.{Class}
use Rattle.goal_graph.specs.declared.action.Class.TheVariants.{Arrive, Serve, Data, Post, Begin}
use Rattle.goal_graph.specs.declared.plan.Dep.{Dep}
use Rattle.goal_graph.specs.declared.plan.Need.{Need}
use Rattle.goal_graph.specs.Schedule.{Plan, needs, needed, deps_at, earlier_of}
use Rattle.goal_graph.specs.Concerned.{waiting_on, later_of}
use Rattle.goal_graph.specs.Action.{same_op}
use Rattle.goal_graph.proofs.ForCallers.{count-cons, eqb-swapped, same_op_true}
use Rattle.sim_params.specs.Costs.{CostModel}
use Rattle.sim_params.specs.Times.{greatest, met_at, Possible}
use Rattle.sim_params.specs.Run.{IsRun}
use Rattle.sim_state.specs.Awaited.{is_there, unmet, last_given}
use Rattle.sim_state.proofs.GivenMoments.{gives_none, given_is_new, is_given, met_kept_for_other_op, met_kept_where_none_given, same_moment, was_there, there_now}

-- a test as a number
abbrev pub one_if : Bool → ℕ
one_if b = cond b 1 0

-- the greatest of a list, one by one
pub greatest_none : {A : Type 0} (f : A → ℕ) → greatest f [] ≡ 0
unfolding greatest
greatest_none f = refl

pub greatest_cons : {A : Type 0} (f : A → ℕ) (x : A) (xs : List A) → greatest f (x ∷ xs) ≡ max (f x) (greatest f xs)
unfolding greatest
greatest_cons f x xs = refl

pub greatest_push : {A : Type 0} (f : A → ℕ) (xs : List A) (x : A) → greatest f (xs ++ (x ∷ [])) ≡ max (greatest f xs) (f x)
greatest_push f [] x =
    greatest_cons f x [] ∙ omega (arith, greatest_none f)
greatest_push f (y ∷ ys) x =
    let rest = greatest_push f ys x in
    let whole = greatest_cons f y (ys ++ (x ∷ [])) in
    let part = greatest_cons f y ys in
    omega arith

greatest_zero : {A : Type 0} (f : A → ℕ) (xs : List A) → ((x : A) → f x ≡ 0) → greatest f xs ≡ 0
greatest_zero f [] none = greatest_none f
greatest_zero f (x ∷ xs) none =
    let here = none x in
    let rest = greatest_zero f xs none in
    let whole = greatest_cons f x xs in
    omega arith

pub count_zero : {A : Type 0} (p : A → Bool) (xs : List A) → ((x : A) → p x ≡ false) → count_by p xs ≡ 0
count_zero p [] none = refl
count_zero p (x ∷ xs) none =
    count-cons p x xs ∙ ap₂ (λ (b : Bool) (n : ℕ). cond b 1 0 + n) (none x) (count_zero p xs none)

-- no number of a list that none passes is greater than 0
pub greatest_uncounted : {A : Type 0} (p : A → Bool) (f : A → ℕ) (xs : List A) → count_by p xs ≡ 0 → greatest (λ (x : A). if p x then f x else 0) xs ≡ 0
greatest_uncounted p f [] e = greatest_none (λ x. if p x then f x else 0)
greatest_uncounted {A} p f (x ∷ xs) e =
    elim (cases_Bool (p x)) [ inl t ↦ absurd (omega (arith, sym e ∙ count-cons p x xs ∙ ap (λ (b : Bool). cond b 1 0 + count_by p xs) t)) | inr n ↦ greatest_cons (λ (x : A). if p x then f x else 0) x xs ∙ ap₂ max (cond-false _ _ _ n) (greatest_uncounted p f xs (omega (arith, sym e ∙ count-cons p x xs ∙ ap (λ (b : Bool). cond b 1 0 + count_by p xs) n))) ]

-- a count, and the greatest, of those of a list that pass, turned into others
count_passed : {A B : Type 0} (p : B → Bool) (f : A → B) (test : A → Bool) (x : A) (xs : List A) → count_by p (map f (filter test (x ∷ xs))) ≡ one_if (test x && p (f x)) + count_by p (map f (filter test xs))
count_passed {A} {B} p f test x xs = go (test x)
  where
    go : (b : Bool) → count_by p (map f (cond b (x ∷ filter test xs) (filter test xs))) ≡ one_if (b && p (f x)) + count_by p (map f (filter test xs))
    go true = count-cons p (f x) (map f (filter test xs))
    go false = omega arith

greatest_passed : {A B : Type 0} (g : B → ℕ) (f : A → B) (test : A → Bool) (x : A) (xs : List A) → greatest g (map f (filter test (x ∷ xs))) ≡ max (if test x then g (f x) else 0) (greatest g (map f (filter test xs)))
greatest_passed {A} {B} g f test x xs = go (test x)
  where
    go : (b : Bool) → greatest g (map f (cond b (x ∷ filter test xs) (filter test xs))) ≡ max (if b then g (f x) else 0) (greatest g (map f (filter test xs)))
    go true = greatest_cons g (f x) (map f (filter test xs))
    go false = omega arith

-- the count of what is absent, as one more may be there
kept_numbers : (b w n e : Bool) → e ≡ false → (b ≡ true → n ≡ w) → one_if (b && not w) ≡ one_if (b && not n) + one_if e
kept_numbers true w n e f same =
    let one : one_if (not n) ≡ one_if (not w) = ap (λ (c : Bool). one_if (not c)) (same refl) in
    let none : one_if e ≡ 0 = ap one_if f in
    omega arith
kept_numbers false w n e f same =
    let none : one_if e ≡ 0 = ap one_if f in
    omega arith

new_numbers : (b w n e : Bool) → b ≡ true → w ≡ false → n ≡ true → e ≡ true → one_if (b && not w) ≡ one_if (b && not n) + one_if e
new_numbers b w n e t absent there named =
    let was : one_if (b && not w) ≡ 1 = ap₂ (λ (c d : Bool). one_if (c && not d)) t absent in
    let now : one_if (b && not n) ≡ 0 = ap₂ (λ (c d : Bool). one_if (c && not d)) t there in
    let one : one_if e ≡ 1 = ap one_if named in
    omega arith

-- an action is an arrival, or it is not
pub cases_arrive : (c : Class) → (c ≡ Arrive) ⊎ (c ≢ Arrive)
cases_arrive Arrive = inl refl
cases_arrive Serve = inr (λ e. cc)
cases_arrive Data = inr (λ e. cc)
cases_arrive Post = inr (λ e. cc)
cases_arrive Begin = inr (λ e. cc)

module _ (plans : List Plan) (costs : CostModel) (h : List Timed) (a : Timed) where
  -- an entry of those that wait for the action's operation names y, and is given its moment
  abbrev pub names : OpId → Need → Bool
  names y d = same_op (needed a.op d) y && is_given plans costs h a d.when

  -- the moment of such an entry
  abbrev pub given_to : OpId → Need → ℕ
  given_to y d = if names y d then met_at plans costs (a ∷ h) d.when a.op else 0

  -- the moments of those that y needs, where they are there
  abbrev there_before : OpId → Need → ℕ
  there_before y d =
      if is_there plans costs h y d then met_at plans costs h d.when (needed y d) else 0

  abbrev there_after : OpId → Need → ℕ
  there_after y d =
      if is_there plans costs (a ∷ h) y d then met_at plans costs (a ∷ h) d.when (needed y d) else 0

  module _ (run : IsRun plans costs h) (p : Possible plans costs h a) (y : OpId) where
    -- a need that is met as before
    kept_moment : (d : Need) → is_there plans costs (a ∷ h) y d ≡ is_there plans costs h y d → there_after y d ≡ there_before y d
    kept_moment d same =
        elim (cases_Bool (is_there plans costs h y d)) [ inl t ↦ cond-true _ _ _ (same ∙ t) ∙ same_moment plans costs h a run d.when (needed y d) t ∙ sym (cond-true _ _ _ t) | inr f ↦ cond-false _ _ _ (same ∙ f) ∙ sym (cond-false _ _ _ f) ]

    -- where an operation of another rank acts
    kept_apart : (d : Need) → same_op a.op (needed y d) ≡ false → is_there plans costs (a ∷ h) y d ≡ is_there plans costs h y d
    kept_apart d e = met_kept_for_other_op plans costs h a d.when (needed y d) e

    -- what a dependency of the rank is for y: its moment was there, or not, as it is now and no entry is given it; or it is given
    abbrev later : Dep → Bool
    later d = d.later == y.op

    abbrev earlier : Dep → Bool
    earlier d = d.earlier == a.op.op

    record IsNew (d : Dep) : Type 0 where
      needs : later d ≡ true
      needed : earlier d ≡ true
      named : names y (later_of d) ≡ true
      absent : is_there plans costs h y (earlier_of d) ≡ false
      there : is_there plans costs (a ∷ h) y (earlier_of d) ≡ true
      moment : met_at plans costs (a ∷ h) d.when (record { rank = y.rank; op = d.earlier }) ≡ met_at plans costs (a ∷ h) d.when a.op

    record IsKept (d : Dep) : Type 0 where
      unnamed : (earlier d && names y (later_of d)) ≡ false
      same : later d ≡ true → is_there plans costs (a ∷ h) y (earlier_of d) ≡ is_there plans costs h y (earlier_of d)

    -- how both lists change by it
    kept_count : (d : Dep) → IsKept d → one_if (later d && not (is_there plans costs h y (earlier_of d))) ≡ one_if (later d && not (is_there plans costs (a ∷ h) y (earlier_of d))) + one_if (earlier d && names y (later_of d))
    kept_count d k = kept_numbers (later d) _ _ (earlier d && names y (later_of d)) k.unnamed k.same

    new_count : (d : Dep) → IsNew d → one_if (later d && not (is_there plans costs h y (earlier_of d))) ≡ one_if (later d && not (is_there plans costs (a ∷ h) y (earlier_of d))) + one_if (earlier d && names y (later_of d))
    new_count d k =
        new_numbers (later d) _ _ (earlier d && names y (later_of d)) k.needs k.absent k.there (ap₂ (λ (b c : Bool). b && c) k.needed k.named)

    kept_last : (d : Dep) → IsKept d → (if later d then there_after y (earlier_of d) else 0) ≡ max (if later d then there_before y (earlier_of d) else 0) (if earlier d then given_to y (later_of d) else 0)
    kept_last d k = elim (cases_Bool (later d)) [ inl t ↦ (cond-true _ _ _ t ∙ kept_moment (earlier_of d) (k.same t) ∙ sym (cond-true _ _ _ t)) ∙ none_more | inr f ↦ (cond-false _ _ _ f ∙ sym (cond-false _ _ _ f)) ∙ none_more ]
      where
        none : (b c : Bool) (n : ℕ) → (b && c) ≡ false → (if b then (if c then n else 0) else 0) ≡ 0
        none true true n e = absurd (both_ways _ e refl)
        none true false n e = refl
        none false c n e = refl

        none_more : (if later d then there_before y (earlier_of d) else 0) ≡ max (if later d then there_before y (earlier_of d) else 0) (if earlier d then given_to y (later_of d) else 0)
        none_more =
            sym (max-zero _) ∙ ap (max (if later d then there_before y (earlier_of d) else 0)) (sym (none (earlier d) (names y (later_of d)) _ k.unnamed))

    new_last : (d : Dep) → IsNew d → (if later d then there_after y (earlier_of d) else 0) ≡ max (if later d then there_before y (earlier_of d) else 0) (if earlier d then given_to y (later_of d) else 0)
    new_last d k =
        let now : (if later d then there_after y (earlier_of d) else 0) ≡ met_at plans costs (a ∷ h) d.when a.op = cond-true _ _ _ k.needs ∙ cond-true _ _ _ k.there ∙ k.moment in
        let before : (if later d then there_before y (earlier_of d) else 0) ≡ 0 = cond-true _ _ _ k.needs ∙ cond-false _ _ _ k.absent in
        let one : (if earlier d then given_to y (later_of d) else 0) ≡ met_at plans costs (a ∷ h) d.when a.op = cond-true _ _ _ k.needed ∙ cond-true _ _ _ k.named in
        now ∙ sym (zero-max _) ∙ ap₂ max (sym before) (sym one)

    -- which of both a dependency is, where y is of the action's rank
    data IsOneOf (d : Dep) : Type 0 where
      new : IsNew d → IsOneOf d
      kept : IsKept d → IsOneOf d

    module _ (same_rank : (a.op.rank == y.rank) ≡ true) where
      named_so : (d : Dep) → later d ≡ true → names y (later_of d) ≡ is_given plans costs h a d.when
      named_so d e =
          ap₂ (λ (b c : Bool). (b && c) && is_given plans costs h a d.when) same_rank e

      unnamed_so : (d : Dep) → later d ≡ false → names y (later_of d) ≡ false
      unnamed_so d e = and_left _ _ (and_right _ _ e)

      needs_so : (d : Dep) → earlier d ≡ true → same_op a.op (needed y (earlier_of d)) ≡ true
      needs_so d e = ap₂ (λ (b c : Bool). b && c) same_rank (eqb-swapped a.op.op d.earlier ∙ e)

      needs_not : (d : Dep) → earlier d ≡ false → same_op a.op (needed y (earlier_of d)) ≡ false
      needs_not d e = and_right _ _ (eqb-swapped a.op.op d.earlier ∙ e)

      one_of : (d : Dep) → IsOneOf d
      one_of d = go (cases_Bool (later d)) (cases_Bool (earlier d)) (cases_Bool (is_given plans costs h a d.when))
        where
          go : (later d ≡ true) ⊎ (later d ≡ false) → (earlier d ≡ true) ⊎ (earlier d ≡ false) → (is_given plans costs h a d.when ≡ true) ⊎ (is_given plans costs h a d.when ≡ false) → IsOneOf d
          go (inr l) e g = kept (record { unnamed = and_right _ _ (unnamed_so d l); same = λ t. absurd (both_ways _ l t) })
          go (inl l) (inr e) g = kept (record { unnamed = and_left _ _ e; same = λ t. kept_apart (earlier_of d) (needs_not d e) })
          go (inl l) (inl e) (inr g) = kept (record { unnamed = and_right _ _ (named_so d l ∙ g); same = λ t. subst (λ (x : OpId). there_now plans costs h a d.when x ≡ was_there plans costs h a d.when x) (same_op_true a.op (needed y (earlier_of d)) (needs_so d e)) (met_kept_where_none_given plans costs h a d.when g) })
          go (inl l) (inl e) (inl g) =
              let is = same_op_true a.op (needed y (earlier_of d)) (needs_so d e) in
              let now = given_is_new plans costs h a run p d.when g in
              new (record { needs = l; needed = e; named = named_so d l ∙ g; absent = subst (λ (x : OpId). was_there plans costs h a d.when x ≡ false) is now.0; there = subst (λ (x : OpId). there_now plans costs h a d.when x ≡ true) is now.1; moment = ap (met_at plans costs (a ∷ h) d.when) (sym is) })

      counts : (ds : List Dep) → count_by (λ (d : Need). not (is_there plans costs h y d)) (map earlier_of (filter later ds)) ≡ count_by (λ (d : Need). not (is_there plans costs (a ∷ h) y d)) (map earlier_of (filter later ds)) + count_by (names y) (map later_of (filter earlier ds))
      counts [] = refl
      counts (d ∷ ds) =
          let here : one_if (later d && not (is_there plans costs h y (earlier_of d))) ≡ one_if (later d && not (is_there plans costs (a ∷ h) y (earlier_of d))) + one_if (earlier d && names y (later_of d)) = elim (one_of d) [ new k ↦ new_count d k | kept k ↦ kept_count d k ] in
          let was = count_passed (λ (n : Need). not (is_there plans costs h y n)) earlier_of later d ds in
          let now = count_passed (λ (n : Need). not (is_there plans costs (a ∷ h) y n)) earlier_of later d ds in
          let named = count_passed (names y) later_of earlier d ds in
          omega (arith, counts ds, here, was, now, named)

      lasts : (ds : List Dep) → greatest (there_after y) (map earlier_of (filter later ds)) ≡ max (greatest (there_before y) (map earlier_of (filter later ds))) (greatest (given_to y) (map later_of (filter earlier ds)))
      lasts [] = let f = greatest_none (there_after y) in let g = greatest_none (there_before y) in let k = greatest_none (given_to y) in omega arith
      lasts (d ∷ ds) =
          let here : (if later d then there_after y (earlier_of d) else 0) ≡ max (if later d then there_before y (earlier_of d) else 0) (if earlier d then given_to y (later_of d) else 0) = elim (one_of d) [ new k ↦ new_last d k | kept k ↦ kept_last d k ] in
          let now = greatest_passed (there_after y) earlier_of later d ds in
          let was = greatest_passed (there_before y) earlier_of later d ds in
          let named = greatest_passed (given_to y) later_of earlier d ds in
          omega (arith, lasts ds, here, was, now, named)

    -- an action of another rank
    module _ (other_rank : (a.op.rank == y.rank) ≡ false) where
      pub names_none : (d : Need) → names y d ≡ false
      names_none d = and_left _ _ (and_left _ _ other_rank)

      stays : (d : Need) → is_there plans costs (a ∷ h) y d ≡ is_there plans costs h y d
      stays d = kept_apart d (and_left _ _ other_rank)

      counts_apart : (ns ws : List Need) → count_by (λ (d : Need). not (is_there plans costs h y d)) ns ≡ count_by (λ (d : Need). not (is_there plans costs (a ∷ h) y d)) ns + count_by (names y) ws
      counts_apart ns ws =
          let same : count_by (λ (d : Need). not (is_there plans costs (a ∷ h) y d)) ns ≡ count_by (λ (d : Need). not (is_there plans costs h y d)) ns = (λ i. count_by (λ (d : Need). not (stays d i)) ns) in
          omega (arith, same, count_zero (names y) ws names_none)

      lasts_apart : (ns ws : List Need) → greatest (there_after y) ns ≡ max (greatest (there_before y) ns) (greatest (given_to y) ws)
      lasts_apart ns ws =
          let same : greatest (there_after y) ns ≡ greatest (there_before y) ns = (λ i. greatest (λ (d : Need). kept_moment d (stays d) i) ns) in
          omega (arith, same, greatest_zero (given_to y) ws (λ d. cond-false _ _ _ (names_none d)))

    -- those that wait for the action's operation and are given a moment are those that it lets y wait for no longer
    pub counted : unmet plans costs h y ≡ unmet plans costs (a ∷ h) y + count_by (names y) (waiting_on plans a.op)
    unfolding needs waiting_on
    counted =
        elim (cases_Bool (a.op.rank == y.rank)) [ inl t ↦ subst (λ (r : ℕ). unmet plans costs h y ≡ unmet plans costs (a ∷ h) y + count_by (names y) (map later_of (filter earlier (deps_at plans r)))) (sym (eqb-true a.op.rank y.rank t)) (counts t (deps_at plans y.rank)) | inr f ↦ counts_apart f (needs plans y) (waiting_on plans a.op) ]

    pub last_so_far : last_given plans costs (a ∷ h) y ≡ max (last_given plans costs h y) (greatest (given_to y) (waiting_on plans a.op))
    unfolding needs waiting_on
    last_so_far =
        elim (cases_Bool (a.op.rank == y.rank)) [ inl t ↦ subst (λ (r : ℕ). last_given plans costs (a ∷ h) y ≡ max (last_given plans costs h y) (greatest (given_to y) (map later_of (filter earlier (deps_at plans r))))) (sym (eqb-true a.op.rank y.rank t)) (lasts t (deps_at plans y.rank)) | inr f ↦ lasts_apart f (needs plans y) (waiting_on plans a.op) ]

    -- an arrival gives none
    module _ (arrives : a.class ≡ Arrive) where
      pub names_nothing : (d : Need) → names y d ≡ false
      names_nothing d = and_right _ _ (and_left _ _ (gives_none a.class d.when arrives))

    module _ (ws : List Need) (whom : a.class ≢ Arrive → ws ≡ waiting_on plans a.op) where
      -- whichever waits, where it is an arrival
      pub counted_those : unmet plans costs h y ≡ unmet plans costs (a ∷ h) y + count_by (names y) ws
      counted_those =
          elim (cases_arrive a.class) [ inl e ↦ counted ∙ ap (λ (n : ℕ). unmet plans costs (a ∷ h) y + n) (count_zero (names y) (waiting_on plans a.op) (names_nothing e) ∙ sym (count_zero (names y) ws (names_nothing e))) | inr d ↦ counted ∙ ap (λ (ns : List Need). unmet plans costs (a ∷ h) y + count_by (names y) ns) (sym (whom d)) ]

      pub last_those : last_given plans costs (a ∷ h) y ≡ max (last_given plans costs h y) (greatest (given_to y) ws)
      last_those =
          elim (cases_arrive a.class) [ inl e ↦ last_so_far ∙ ap (max (last_given plans costs h y)) (greatest_zero (given_to y) (waiting_on plans a.op) (λ d. cond-false _ _ _ (names_nothing e d)) ∙ sym (greatest_zero (given_to y) ws (λ d. cond-false _ _ _ (names_nothing e d)))) | inr d ↦ last_so_far ∙ ap (λ (ns : List Need). max (last_given plans costs h y) (greatest (given_to y) ns)) (sym (whom d)) ]
