-- The orders of operations and of keys are total, and a key determines its action.
use Rattle.std.proofs.Common.{ℕ, ◌<◌, ◌≡◌, ◌⊎◌, ◌==◌, ◌&&◌, ◌↔◌, true, List, [], ◌∷◌, length, nat_lt, inl, inr, ⊎_elim, refl, sym, arith, ltb-true, lt-ltb, eqb-true, eq-eqb, ◌∙◌}
use Rattle.std.proofs.lemmas.Bool.{cases_order, or_cases, and_parts, or_left, or_right, and_from}
use Rattle.goal_graph.specs.declared.action.OpId.{OpId}
use Rattle.goal_graph.specs.declared.action.Timed.{Timed}
use Rattle.goal_graph.proofs.Actions.{place_injective}
use Rattle.goal_graph.specs.Order.{IsBefore, IsLess, key}
use Rattle.goal_graph.specs.Keys.{less}

-- an operation is not before itself
pub before_irreflexive : (x : OpId) → ¬ (IsBefore x x)
before_irreflexive x (inl p) = omega (arith, p)
before_irreflexive x (inr p) = omega (arith, p.1)

pub before_transitive : (x y z : OpId) → IsBefore x y → IsBefore y z → IsBefore x z
before_transitive x y z (inl p) (inl q) = inl (omega (arith, p, q))
before_transitive x y z (inl p) (inr q) = inl (omega (arith, p, q.0))
before_transitive x y z (inr p) (inl q) = inl (omega (arith, p.0, q))
before_transitive x y z (inr p) (inr q) = inr (p.0 ∙ q.0, omega (arith, p.1, q.1))

-- two different operations are in order one way or the other
pub before_cases : (x y : OpId) → IsBefore x y ⊎ (IsBefore y x ⊎ (x ≡ y))
before_cases x y = go (cases_order x.rank y.rank) (cases_order x.op y.op)
  where
    go : (x.rank ≡ y.rank) ⊎ ((x.rank < y.rank) ⊎ (y.rank < x.rank)) → (x.op ≡ y.op) ⊎ ((x.op < y.op) ⊎ (y.op < x.op)) → IsBefore x y ⊎ (IsBefore y x ⊎ (x ≡ y))
    go (inr (inl p)) r = inl (inl p)
    go (inr (inr p)) r = inr (inl (inl p))
    go (inl s) (inr (inl p)) = inl (inr (s, p))
    go (inl s) (inr (inr p)) = inr (inl (inr (sym s, p)))
    go (inl s) (inl e) = inr (inr (λ i. record { rank = s i; op = e i }))

pub less_irreflexive : (k : List ℕ) → ¬ (IsLess k k)
less_irreflexive [] h = absurd h
less_irreflexive (m ∷ ms) (inl p) = omega arith
less_irreflexive (m ∷ ms) (inr p) = less_irreflexive ms p.1

pub less_transitive : (j k l : List ℕ) → IsLess j k → IsLess k l → IsLess j l
less_transitive [] k l p q = absurd p
less_transitive (a ∷ js) [] l p q = absurd p
less_transitive (a ∷ js) (b ∷ ks) [] p q = absurd q
less_transitive (a ∷ js) (b ∷ ks) (c ∷ ls) (inl p) (inl q) = inl (omega arith)
less_transitive (a ∷ js) (b ∷ ks) (c ∷ ls) (inl p) (inr q) = inl (omega arith)
less_transitive (a ∷ js) (b ∷ ks) (c ∷ ls) (inr p) (inl q) = inl (omega arith)
less_transitive (a ∷ js) (b ∷ ks) (c ∷ ls) (inr p) (inr q) = inr (omega arith, less_transitive js ks ls p.1 q.1)

-- two keys of one length are equal, or one is less than the other
pub less_cases : (j k : List ℕ) → length j ≡ length k → (j ≡ k) ⊎ (IsLess j k ⊎ IsLess k j)
less_cases [] [] e = inl refl
less_cases [] (n ∷ ns) e = absurd (omega arith)
less_cases (m ∷ ms) [] e = absurd (omega arith)
less_cases (m ∷ ms) (n ∷ ns) e = go (less_cases ms ns (omega arith)) (cases_order m n)
  where
    go : (ms ≡ ns) ⊎ (IsLess ms ns ⊎ IsLess ns ms) → (m ≡ n) ⊎ ((m < n) ⊎ (n < m)) → ((m ∷ ms) ≡ (n ∷ ns)) ⊎ (IsLess (m ∷ ms) (n ∷ ns) ⊎ IsLess (n ∷ ns) (m ∷ ms))
    go r (inr (inl p)) = inr (inl (inl p))
    go r (inr (inr p)) = inr (inr (inl p))
    go (inl s) (inl p) = inl (cc)
    go (inr (inl s)) (inl p) = inr (inl (inr (p, s)))
    go (inr (inr s)) (inl p) = inr (inr (inr (sym p, s)))

-- the test decides the order
pub tested_less : (j k : List ℕ) → less j k ≡ true → IsLess j k
unfolding less
tested_less [] k e = absurd (cc)
tested_less (m ∷ ms) [] e = absurd (cc)
tested_less (m ∷ ms) (n ∷ ns) e =
    ⊎_elim (λ p. inl (ltb-true m n p)) (λ p. let q = and_parts (m == n) (less ms ns) p in inr (eqb-true m n q.0, tested_less ms ns q.1)) (or_cases (nat_lt m n) ((m == n) && less ms ns) e)

pub less_tested : (j k : List ℕ) → IsLess j k → less j k ≡ true
unfolding less
less_tested [] k p = absurd p
less_tested (m ∷ ms) [] p = absurd p
less_tested (m ∷ ms) (n ∷ ns) (inl p) = or_left (nat_lt m n) ((m == n) && less ms ns) (lt-ltb m n p)
less_tested (m ∷ ms) (n ∷ ns) (inr p) =
    or_right (nat_lt m n) ((m == n) && less ms ns) (and_from (m == n) (less ms ns) (eq-eqb m n p.0) (less_tested ms ns p.1))

pub less_decides : (j k : List ℕ) → (less j k ≡ true) ↔ IsLess j k
less_decides j k = (tested_less j k, less_tested j k)

pub timed_from_parts : (a b : Timed) → a.time ≡ b.time → a.class ≡ b.class → a.op.rank ≡ b.op.rank → a.op.op ≡ b.op.op → a ≡ b
timed_from_parts a b p q r s = λ i. record { time = p i; class = q i; op = record { rank = r i; op = s i } }

-- a key determines its action
pub key-injective : (a b : Timed) → key a ≡ key b → a ≡ b
key-injective a b e = timed_from_parts a b (cc) (place_injective a.class b.class (cc)) (cc) (cc)

-- two actions are the same, or one of their keys is less than the other
pub key_cases : (a b : Timed) → (a ≡ b) ⊎ (IsLess (key a) (key b) ⊎ IsLess (key b) (key a))
key_cases a b = elim (less_cases (key a) (key b) refl) [ inl e ↦ inl (key-injective a b e) | inr s ↦ inr s ]

pub least_unique : (a b : Timed) → ¬ (IsLess (key a) (key b)) → ¬ (IsLess (key b) (key a)) → a ≡ b
least_unique a b p q = elim (key_cases a b) [ inl e ↦ e | inr (inl s) ↦ absurd (p s) | inr (inr s) ↦ absurd (q s) ]
