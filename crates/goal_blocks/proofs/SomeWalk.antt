-- Each schedule has a walk.
use Rattle.std.proofs.Common.{ℕ, zero, suc, ◌≤◌, ◌<◌, ⊎_elim, ◌≡◌, ◌⊎◌, inl, inr, Bool, true, false, List, [], ◌∷◌, AllPairs, Contains, sym, subst, arith}
use Rattle.std.proofs.lemmas.Bool.{both_ways, cases_Bool}
use Rattle.goal_graph.specs.declared.action.OpId.{OpId}
use Rattle.goal_graph.specs.declared.action.Class.{Class}
use Rattle.goal_graph.specs.Schedule.{Plan, operations}
use Rattle.goal_graph.specs.Action.{Act, place}
use Rattle.goal_graph.specs.Allowed.{allowed}
use Rattle.goal_graph.specs.Interleaving.{IsInterleaving}
use Rattle.goal_graph.specs.Laws.{left}
use Rattle.goal_graph.specs.Order.{IsBefore}
use Rattle.goal_graph.proofs.ForCallers.{one_allowed, allowed_listed, operations_in_order, left_falls}
use Rattle.goal_blocks.specs.Walk.{no_send, ComesFirst, TakesFirst, IsWalk}
use Rattle.goal_blocks.proofs.GoesOn.{allowed_class_or_none}

module _ (plans : List Plan) where
  abbrev pub is_allowed : List Act → Class → OpId → Bool
  is_allowed h c x = allowed plans no_send h c x

  -- an allowed action of the first of these operations that has one
  pub record IsFirst (h : List Act) (os : List OpId) (a : Act) : Type 0 where
    pub may : is_allowed h a.class a.op ≡ true
    pub first : (y : OpId) → Contains os y → (d : Class) → is_allowed h d y ≡ true → (a.op ≡ y) ⊎ IsBefore a.op y

  -- none of these operations has an allowed action
  abbrev pub NoneOf : List Act → List OpId → Type 0
  NoneOf h os = (y : OpId) → Contains os y → (d : Class) → is_allowed h d y ≡ false

  find_first_allowed_action : (h : List Act) (os : List OpId) → AllPairs IsBefore os → ((a : Act) × IsFirst h os a) ⊎ NoneOf h os
  find_first_allowed_action h [] ordered = inr (λ y c d. absurd (omega (arith, c.1)))
  find_first_allowed_action h (x ∷ os) ordered =
      ⊎_elim (λ found. inl (record { class = found.0; op = x }, here found.0 found.1)) (λ none. ⊎_elim (λ found. inl (found.0, later none found.0 found.1)) (λ rest. inr (nowhere none rest)) (find_first_allowed_action h os (λ i j d l b. ordered (suc i) (suc j) d (omega (arith, l)) (omega (arith, b))))) (allowed_class_or_none plans no_send h x)
    where
      here : (c : Class) → is_allowed h c x ≡ true → IsFirst h (x ∷ os) (record { class = c; op = x })
      here c p = record { may = p; first = stands }
        where
          stands : (y : OpId) → Contains (x ∷ os) y → (d : Class) → is_allowed h d y ≡ true → (x ≡ y) ⊎ IsBefore x y
          stands y (zero, b, e) d q = inl e
          stands y (suc k, b, e) d q = inr (subst (λ (z : OpId). IsBefore x z) e (ordered 0 (suc k) y (omega arith) b))

      later : ((c : Class) → is_allowed h c x ≡ false) → (a : Act) → IsFirst h os a → IsFirst h (x ∷ os) a
      later none a f = record { may = f.may; first = stands }
        where
          stands : (y : OpId) → Contains (x ∷ os) y → (d : Class) → is_allowed h d y ≡ true → (a.op ≡ y) ⊎ IsBefore a.op y
          stands y (zero, b, e) d q = absurd (both_ways _ (none d) (subst (λ (z : OpId). is_allowed h d z ≡ true) (sym e) q))
          stands y (suc k, b, e) d q = f.first y (k, omega (arith, b), e) d q

      nowhere : ((c : Class) → is_allowed h c x ≡ false) → NoneOf h os → NoneOf h (x ∷ os)
      nowhere none rest y (zero, b, e) d = subst (λ (z : OpId). is_allowed h d z ≡ false) e (none d)
      nowhere none rest y (suc k, b, e) d = rest y (k, omega (arith, b), e) d

  -- the walk takes the allowed action of the first operation that has one
  pub takes_first : (h : List Act) (a : Act) → IsInterleaving plans no_send h → IsFirst h (operations plans) a → (b : Act) → is_allowed h b.class b.op ≡ true → ComesFirst a b
  takes_first h a run f b q =
      ⊎_elim (λ same. inr (same, le same)) (λ before. inl before) (f.first b.op (allowed_listed plans no_send h b.class b.op q) b.class q)
    where
      le : a.op ≡ b.op → place a.class ≤ place b.class
      le same =
          let one = one_allowed plans no_send h a.class b.class b.op run (subst (λ (z : OpId). is_allowed h a.class z ≡ true) same f.may) q in
          subst (λ (c : Class). place a.class ≤ place c) one (omega arith)

  pub nothing_allowed_if_none_found : (h : List Act) → NoneOf h (operations plans) → (a : Act) → is_allowed h a.class a.op ≡ false
  nothing_allowed_if_none_found h none a =
      ⊎_elim (λ p. absurd (both_ways _ (none a.op (allowed_listed plans no_send h a.class a.op p) a.class) p)) (λ p. p) (cases_Bool (is_allowed h a.class a.op))

  -- a start of a walk extends to a walk; n is more than the actions left
  extends_to_walk : (n : ℕ) (h : List Act) → left plans h < n → IsInterleaving plans no_send h → TakesFirst plans h → (w : List Act) × IsWalk plans w
  extends_to_walk zero h few run takes = absurd (omega (arith, few))
  extends_to_walk (suc n) h few run takes =
      ⊎_elim (λ found. let fewer = left_falls plans no_send found.0 h found.1.may in extends_to_walk n (found.0 ∷ h) (omega (arith, few, fewer)) (run, found.1.may) (takes, takes_first h found.0 run found.1)) (λ none. (h, record { complete = record { each = run; none_left = nothing_allowed_if_none_found h none }; in_order = takes })) (find_first_allowed_action h (operations plans) (operations_in_order plans))

  pub some_walk : (w : List Act) × IsWalk plans w
  some_walk = extends_to_walk (suc (left plans [])) [] (omega arith) tt tt
