-- If no element with P has the least key, then none has P: keys of one length have no endless descent.
use Rattle.std.proofs.Common.{ℕ, zero, suc, ◌<◌, ◌≡◌, inl, inr, List, [], ◌∷◌, length, refl, sym, subst, arith}
use Rattle.goal_graph.specs.Order.{IsLess}
use Rattle.goal_blocks.specs.Faults.{IsLeast}

-- strong induction on a number: Q of a number follows from Q of all lower numbers
pub strong_induction : (Q : ℕ → Type 0) → ((n : ℕ) → ((m : ℕ) → m < n → Q m) → Q n) → (n : ℕ) → Q n
strong_induction Q step n = step n (λ m l. up_to n m l)
  where
    up_to : (n m : ℕ) → m < n → Q m
    up_to zero m l = absurd (omega (arith, l))
    up_to (suc n) m l = step m (λ k b. up_to n k (omega (arith, l, b)))

-- induction on keys of one length: Q of a key follows from Q of all lesser keys
induction_on_keys : (n : ℕ) (Q : List ℕ → Type 0) → ((k : List ℕ) → length k ≡ n → ((j : List ℕ) → length j ≡ n → IsLess j k → Q j) → Q k) → (k : List ℕ) → length k ≡ n → Q k
induction_on_keys zero Q step [] e = step [] e (λ j f l. absurd (none j l))
  where
    none : (j : List ℕ) → IsLess j [] → ⊥
    none [] l = l
    none (m ∷ j) l = l
induction_on_keys zero Q step (m ∷ k) e = absurd (omega (arith, e))
induction_on_keys (suc n) Q step [] e = absurd (omega (arith, e))
induction_on_keys (suc n) Q step (m ∷ k) e = at_head (λ R s. induction_on_keys n R s) m k (omega (arith, e))
  where
    descend : (a : ℕ) (us : List ℕ) → ((b : ℕ) → b < a → (vs : List ℕ) → length vs ≡ n → Q (b ∷ vs)) → ((vs : List ℕ) → length vs ≡ n → IsLess vs us → Q (a ∷ vs)) → (j : List ℕ) → length j ≡ suc n → IsLess j (a ∷ us) → Q j
    descend a us outer inner [] f l = absurd (omega (arith, f))
    descend a us outer inner (b ∷ vs) f (inl l) = outer b l vs (omega (arith, f))
    descend a us outer inner (b ∷ vs) f (inr (g, l)) =
        subst (λ (c : ℕ). Q (c ∷ vs)) (sym g) (inner vs (omega (arith, f)) l)

    at_head : ((R : List ℕ → Type 0) → ((us : List ℕ) → length us ≡ n → ((vs : List ℕ) → length vs ≡ n → IsLess vs us → R vs) → R us) → (us : List ℕ) → length us ≡ n → R us) → (a : ℕ) (us : List ℕ) → length us ≡ n → Q (a ∷ us)
    at_head tails =
        strong_induction (λ a. (us : List ℕ) → length us ≡ n → Q (a ∷ us)) (λ a outer. tails (λ us. Q (a ∷ us)) (λ us f inner. step (a ∷ us) (omega (arith, f)) (λ j g l. descend a us outer inner j g l)))

-- if no element with P has the least key, then no element has P
pub holds_of_none_without_least : {A : Type 0} (n : ℕ) (key : A → List ℕ) → ((x : A) → length (key x) ≡ n) → (P : A → Type 0) → ((x : A) → IsLeast key P x → ⊥) → (x : A) → P x → ⊥
holds_of_none_without_least {A} n key long P none x p =
    induction_on_keys n (λ k. (y : A) → key y ≡ k → P y → ⊥) step (key x) (long x) x refl p
  where
    step : (k : List ℕ) → length k ≡ n → ((j : List ℕ) → length j ≡ n → IsLess j k → (y : A) → key y ≡ j → P y → ⊥) → (y : A) → key y ≡ k → P y → ⊥
    step k e before y f q =
        none y (record { holds = q; none_less = λ z l. before (key z) (long z) (subst (λ (i : List ℕ). IsLess (key z) i) f l) z refl })
