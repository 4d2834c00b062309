-- A run has one report.
use Rattle.std.proofs.Common.{◌≡◌, ◌⊎◌, inl, inr, ℕ, zero, suc, ◌≤◌, List, [], ◌∷◌, length, All, AllPairs, Contains, refl, sym, ap, ◌∙◌, subst, arith}
use Rattle.std.proofs.lemmas.List.Elements.{All-contains}
use Rattle.goal_graph.specs.declared.action.OpId.{OpId}
use Rattle.goal_graph.specs.declared.action.Timed.{Timed}
use Rattle.goal_graph.specs.Schedule.{Plan}
use Rattle.goal_graph.specs.Order.{IsBefore}
use Rattle.sim_params.specs.Costs.{CostModel}
use Rattle.sim_waits.specs.Waits.{HasWaited, GoesFirst, AreGreatest}
use Rattle.sim_waits.specs.WaitsText.{waits_text, IsWaitsText}

module _ {X : Type 0} (R : X → X → Type 0) (asymmetric : (x y : X) → R x y → R y x → ⊥) where
  abbrev IsCovered : ℕ → List X → X → Type 0
  IsCovered n ys x = Contains ys x ⊎ ((length ys ≡ n) × All (λ (y : X). R y x) ys)

  -- an element after the first of a list comes after it in the order
  after_first : (x : X) (xs : List X) → AllPairs R (x ∷ xs) → All (R x) xs
  after_first x xs pairs k d h = pairs 0 (suc k) d (omega arith) (omega arith)

  rest_pairs : (x : X) (xs : List X) → AllPairs R (x ∷ xs) → AllPairs R xs
  rest_pairs x xs pairs i j d l h = pairs (suc i) (suc j) d (omega arith) (omega arith)

  contains_parts : (y : X) (ys : List X) (x : X) → Contains (y ∷ ys) x → (y ≡ x) ⊎ Contains ys x
  contains_parts y ys x (zero, b, e) = inl e
  contains_parts y ys x (suc k, b, e) = inr (k, omega (arith, b), e)

  -- the first of one list is the first of the other, or comes after it
  first_or_after : (n : ℕ) (x y : X) (ys : List X) → AllPairs R (y ∷ ys) → IsCovered n (y ∷ ys) x → (y ≡ x) ⊎ R y x
  first_or_after n x y ys pairs (inl c) =
      elim (contains_parts y ys x c) [ inl e ↦ inl e | inr c ↦ inr (All-contains (R y) ys x (after_first y ys pairs) c) ]
  first_or_after n x y ys pairs (inr full) = inr (full.1 0 y (omega arith))

  covered_tail : (n : ℕ) (x y : X) (xs ys : List X) → x ≡ y → AllPairs R (x ∷ xs) → ((z : X) → Contains (x ∷ xs) z → IsCovered (suc n) (y ∷ ys) z) → (z : X) → Contains xs z → IsCovered n ys z
  covered_tail n x y xs ys same pairs covers z (k, b, e) = go (covers z (suc k, omega (arith, b), e))
    where
      later : R x z
      later = All-contains (R x) xs z (after_first x xs pairs) (k, b, e)

      go : IsCovered (suc n) (y ∷ ys) z → IsCovered n ys z
      go (inl c) =
          elim (contains_parts y ys z c) [ inl e ↦ absurd (asymmetric x z later (subst (λ (w : X). R w x) e (subst (λ (w : X). R y w) (sym same) (subst (λ (w : X). R w w) same (subst (λ (w : X). R x w) (sym e ∙ sym same) later))))) | inr c ↦ inl c ]
      go (inr full) = inr (omega (arith, full.0), λ i d h. full.1 (suc i) d (omega (arith, h)))

  -- two lists in order are equal if each contains all that goes before what it leaves out
  covering_lists_are_equal : (n : ℕ) (xs ys : List X) → AllPairs R xs → AllPairs R ys → length xs ≤ n → length ys ≤ n
      → ((z : X) → Contains xs z → IsCovered n ys z) → ((z : X) → Contains ys z → IsCovered n xs z) → xs ≡ ys
  covering_lists_are_equal n [] [] p q l m a b = refl
  covering_lists_are_equal n (x ∷ xs) [] p q l m a b =
      elim (a x (0, omega arith, refl)) [ inl c ↦ absurd (omega (arith, c.1)) | inr full ↦ absurd (omega (arith, l, full.0)) ]
  covering_lists_are_equal n [] (y ∷ ys) p q l m a b =
      elim (b y (0, omega arith, refl)) [ inl c ↦ absurd (omega (arith, c.1)) | inr full ↦ absurd (omega (arith, m, full.0)) ]
  covering_lists_are_equal zero (x ∷ xs) (y ∷ ys) p q l m a b = absurd (omega (arith, l))
  covering_lists_are_equal (suc n) (x ∷ xs) (y ∷ ys) p q l m a b =
      let same = first (first_or_after (suc n) x y ys q (a x (0, omega arith, refl))) (first_or_after (suc n) y x xs p (b y (0, omega arith, refl))) in
      let rest = covering_lists_are_equal n xs ys (rest_pairs x xs p) (rest_pairs y ys q) (omega (arith, l)) (omega (arith, m)) (covered_tail n x y xs ys same p a) (covered_tail n y x ys xs (sym same) q b) in
      λ i. same i ∷ rest i
    where
      first : (y ≡ x) ⊎ R y x → (x ≡ y) ⊎ R x y → x ≡ y
      first (inl e) o = sym e
      first (inr r) (inl e) = e
      first (inr r) (inr s) = absurd (asymmetric x y s r)

module _ (plans : List Plan) (costs : CostModel) (h : List Timed) where
  goes_first_asymmetric : (x y : OpId) → GoesFirst plans costs h x y → GoesFirst plans costs h y x → ⊥
  goes_first_asymmetric x y (inl a) (inl b) = omega (arith, a, b)
  goes_first_asymmetric x y (inl a) (inr b) = omega (arith, a, b.0)
  goes_first_asymmetric x y (inr a) (inl b) = omega (arith, a.0, b)
  goes_first_asymmetric x y (inr a) (inr b) = never a.1 b.1
    where
      never : IsBefore x y → IsBefore y x → ⊥
      never (inl l) (inl m) = omega (arith, l, m)
      never (inl l) (inr m) = omega (arith, l, m.0)
      never (inr l) (inl m) = omega (arith, l.0, m)
      never (inr l) (inr m) = omega (arith, l.1, m.1)

  greatest_unique : (xs ys : List OpId) → AreGreatest plans costs h xs → AreGreatest plans costs h ys → xs ≡ ys
  greatest_unique xs ys a b =
      covering_lists_are_equal (GoesFirst plans costs h) goes_first_asymmetric 10 xs ys a.in_order b.in_order a.few b.few
      (λ z c. b.rest z (All-contains (HasWaited plans costs h) xs z a.waited c))
      (λ z c. a.rest z (All-contains (HasWaited plans costs h) ys z b.waited c))

  pub report_unique : (one other : List ℕ) → IsWaitsText plans costs h one → IsWaitsText plans costs h other → one ≡ other
  report_unique one other a b =
      a.lines ∙ ap (waits_text plans costs h) (greatest_unique a.longest b.longest a.greatest b.greatest) ∙ sym b.lines
