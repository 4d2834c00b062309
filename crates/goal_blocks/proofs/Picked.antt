-- The contributions of one item of some of the ranks, in order.
use Rattle.std.proofs.Common.{⊎_elim, map, ℕ, zero, suc, ◌+◌, ◌<◌, ◌≤◌, ◌≡◌, nat_lt, Bool, true, false, [], ◌∷◌, length, if◌then◌else◌, refl, sym, ap, ◌∙◌, subst, arith}
use Rattle.std.specs.List.{range_with_len}
use Rattle.std.proofs.lemmas.Bool.{lt-ltb, ltb-true, ne_eqb, cases_eq}
use Rattle.goal_blocks.specs.Values.{Value, is_lower, insert_one}

-- the item b of those of the ranks a up to a + m - 1 that p picks
unfoldable pub picked : (ℕ → Bool) → ℕ → ℕ → ℕ → Value
picked p b a zero = []
picked p b a (suc m) = if p a then record { rank = a; item = b } ∷ picked p b (a + 1) m else picked p b (a + 1) m

pub picked_few : (p : ℕ → Bool) (b a m : ℕ) → length (picked p b a m) ≤ m
unfolding picked
picked_few p b a zero = omega arith
picked_few p b a (suc m) = go (picked_few p b (a + 1) m) (p a)
  where
    go : length (picked p b (a + 1) m) ≤ m → (t : Bool) → length (if t then record { rank = a; item = b } ∷ picked p b (a + 1) m else picked p b (a + 1) m) ≤ suc m
    go rest true = omega (arith, rest)
    go rest false = omega (arith, rest)

pub is_lower_by_rank : (a c b : ℕ) → a < c → is_lower (record { rank = a; item = b }) (record { rank = c; item = b }) ≡ true
is_lower_by_rank a c b l = rw (lt-ltb a c l) refl

pub not_lower_by_rank : (a c b : ℕ) → c < a → is_lower (record { rank = a; item = b }) (record { rank = c; item = b }) ≡ false
not_lower_by_rank a c b l = rw (higher, ne_eqb a c (λ e. omega (arith, e, l))) refl
  where
    higher : nat_lt a c ≡ false
    higher = go (nat_lt a c) refl
      where
        go : (t : Bool) → nat_lt a c ≡ t → t ≡ false
        go true e = absurd (let m = ltb-true a c e in omega (arith, m, l))
        go false e = refl

-- a rank lower than all comes first
pub insert_low : (p : ℕ → Bool) (r b a m : ℕ) → r < a → insert_one (record { rank = r; item = b }) (picked p b a m) ≡ record { rank = r; item = b } ∷ picked p b a m
unfolding picked insert_one
insert_low p r b a zero l = refl
insert_low p r b a (suc m) l = go (insert_low p r b (a + 1) m (omega (arith, l))) (p a)
  where
    go : insert_one (record { rank = r; item = b }) (picked p b (a + 1) m) ≡ record { rank = r; item = b } ∷ picked p b (a + 1) m → (t : Bool) → insert_one (record { rank = r; item = b }) (if t then record { rank = a; item = b } ∷ picked p b (a + 1) m else picked p b (a + 1) m) ≡ record { rank = r; item = b } ∷ (if t then record { rank = a; item = b } ∷ picked p b (a + 1) m else picked p b (a + 1) m)
    go rest true = rw (is_lower_by_rank r a b l) refl
    go rest false = rest

pub picked_same : (p q : ℕ → Bool) (b a m : ℕ) → ((k : ℕ) → a ≤ k → k < a + m → p k ≡ q k) → picked p b a m ≡ picked q b a m
unfolding picked
picked_same p q b a zero same = refl
picked_same p q b a (suc m) same =
    rw (same a (omega arith) (omega arith), picked_same p q b (a + 1) m (λ k l g. same k (omega (arith, l)) (omega (arith, g)))) refl

-- inserting a rank that is not picked gives the value in which it is picked
pub insert_picked : (p q : ℕ → Bool) (r b a m : ℕ) → a ≤ r → r < a + m → p r ≡ false → q r ≡ true → ((k : ℕ) → (k ≡ r → ⊥) → p k ≡ q k) → insert_one (record { rank = r; item = b }) (picked p b a m) ≡ picked q b a m
unfolding picked insert_one
insert_picked p q r b a zero l g left taken same = absurd (omega (arith, l, g))
insert_picked p q r b a (suc m) l g left taken same =
    ⊎_elim (λ e. subst (λ (c : ℕ). insert_one (record { rank = r; item = b }) (picked p b c (suc m)) ≡ picked q b c (suc m)) e (rw (left, taken, insert_low p r b (r + 1) m (omega arith)) (ap (λ (v : Value). record { rank = r; item = b } ∷ v) (picked_same p q b (r + 1) m (λ k low high. same k (λ f. omega (arith, f, low))))))) (λ d. later (omega (arith, l, d)) (insert_picked p q r b (a + 1) m (omega (arith, l, d)) (omega (arith, g)) left taken same) (same a (λ f. d (sym f))) (p a) refl) (cases_eq r a)
  where
    later : a < r → insert_one (record { rank = r; item = b }) (picked p b (a + 1) m) ≡ picked q b (a + 1) m → p a ≡ q a → (t : Bool) → p a ≡ t → insert_one (record { rank = r; item = b }) (if p a then record { rank = a; item = b } ∷ picked p b (a + 1) m else picked p b (a + 1) m) ≡ (if q a then record { rank = a; item = b } ∷ picked q b (a + 1) m else picked q b (a + 1) m)
    later less rest e true f =
        rw (sym e ∙ f, f, not_lower_by_rank r a b less) (ap (λ (v : Value). record { rank = a; item = b } ∷ v) rest)
    later less rest e false f = rw (sym e ∙ f, f) rest

pub picked_none : (p : ℕ → Bool) (b a m : ℕ) → ((k : ℕ) → p k ≡ false) → picked p b a m ≡ []
unfolding picked
picked_none p b a zero none = refl
picked_none p b a (suc m) none = rw (none a) (picked_none p b (a + 1) m none)

pub picked_all : (p : ℕ → Bool) (b a m : ℕ) → ((k : ℕ) → a ≤ k → k < a + m → p k ≡ true) → picked p b a m ≡ map (λ (q : ℕ). record { rank = q; item = b }) (range_with_len a m)
unfolding picked
picked_all p b a zero all = refl
picked_all p b a (suc m) all =
    rw (all a (omega arith) (omega arith)) (ap (λ (v : Value). record { rank = a; item = b } ∷ v) (picked_all p b (a + 1) m (λ k l g. all k (omega (arith, l)) (omega (arith, g)))))
