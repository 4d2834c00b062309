-- Of more than n numbers below n, two are equal.
use Rattle.std.proofs.Common.{ℕ, zero, suc, ◌-◌, ◌<◌, ◌≤◌, ◌≡◌, ◌⊎◌, inl, inr, ⊎_elim, cond, ltb, sym, ◌∙◌, arith}
use Rattle.std.proofs.lemmas.Bool.{cases_eq, cases_lt, cond-true, cond-false, lt-ltb, le-ltb}

-- f is v at a number below m, or at none
find_value : (f : ℕ → ℕ) (v m : ℕ) → ((i : ℕ) × (i < m) × (f i ≡ v)) ⊎ ((i : ℕ) → i < m → f i ≡ v → ⊥)
find_value f v zero = inr (λ i h e. omega arith)
find_value f v (suc m) = go (find_value f v m) (cases_eq (f m) v)
  where
    go : ((i : ℕ) × (i < m) × (f i ≡ v)) ⊎ ((i : ℕ) → i < m → f i ≡ v → ⊥) → ((f m ≡ v) ⊎ (f m ≡ v → ⊥)) → ((i : ℕ) × (i < suc m) × (f i ≡ v)) ⊎ ((i : ℕ) → i < suc m → f i ≡ v → ⊥)
    go (inl (i, h, e)) last = inl (i, omega (arith, h), e)
    go (inr none) (inl e) = inl (m, omega arith, e)
    go (inr none) (inr other) = inr (λ i h e. ⊎_elim (λ below. none i below e) (λ above. let same : i ≡ m = omega arith in other (sym (sym e ∙ (λ j. f (same j))))) (cases_lt i m))

-- the numbers without v, without a gap
close_gap : ℕ → ℕ → ℕ
close_gap v x = cond (ltb v x) (x - 1) x

close_gap_above : (v x : ℕ) → v < x → close_gap v x ≡ x - 1
unfolding close_gap
close_gap_above v x h = cond-true (ltb v x) (x - 1) x (lt-ltb v x h)

close_gap_below : (v x : ℕ) → x ≤ v → close_gap v x ≡ x
unfolding close_gap
close_gap_below v x h = cond-false (ltb v x) (x - 1) x (le-ltb v x h)

close_gap_fits : (n v x : ℕ) → v < suc n → x < suc n → (x ≡ v → ⊥) → close_gap v x < n
close_gap_fits n v x hv hx other = go (cases_lt v x)
  where
    go : (v < x) ⊎ (x ≤ v) → close_gap v x < n
    go (inl above) = omega (arith, close_gap_above v x above)
    go (inr below) = omega (arith, close_gap_below v x below, other)

close_gap_injective : (v x y : ℕ) → (x ≡ v → ⊥) → (y ≡ v → ⊥) → close_gap v x ≡ close_gap v y → x ≡ y
close_gap_injective v x y nx ny e = go (cases_lt v x) (cases_lt v y)
  where
    go : (v < x) ⊎ (x ≤ v) → (v < y) ⊎ (y ≤ v) → x ≡ y
    go (inl a) (inl b) = omega (arith, close_gap_above v x a, close_gap_above v y b)
    go (inl a) (inr b) = omega (arith, close_gap_above v x a, close_gap_below v y b, ny)
    go (inr a) (inl b) = omega (arith, close_gap_below v x a, close_gap_above v y b, nx)
    go (inr a) (inr b) = omega (arith, close_gap_below v x a, close_gap_below v y b)

-- f is equal at two of the numbers up to n
pub record Collides (f : ℕ → ℕ) (n : ℕ) : Type 0 where
  pub first : ℕ
  pub second : ℕ
  pub in_order : first < second
  pub within : second ≤ n
  pub same : f first ≡ f second

pub two_collide : (n : ℕ) (f : ℕ → ℕ) → ((i : ℕ) → i ≤ n → f i < n) → Collides f n
two_collide zero f fits = absurd (omega (arith, fits 0 (omega arith)))
two_collide (suc n) f fits = go (find_value f (f (suc n)) (suc n)) (two_collide n (λ i. close_gap (f (suc n)) (f i)))
  where
    go : ((i : ℕ) × (i < suc n) × (f i ≡ f (suc n))) ⊎ ((i : ℕ) → i < suc n → f i ≡ f (suc n) → ⊥) → (((i : ℕ) → i ≤ n → close_gap (f (suc n)) (f i) < n) → Collides (λ i. close_gap (f (suc n)) (f i)) n) → Collides f (suc n)
    go (inl (i, h, e)) rest = record { first = i; second = suc n; in_order = h; within = omega arith; same = e }
    go (inr other) rest =
        let r = rest (λ i h. close_gap_fits n (f (suc n)) (f i) (fits (suc n) (omega arith)) (fits i (omega arith)) (other i (omega arith))) in
        record {
          first = r.first;
          second = r.second;
          in_order = r.in_order;
          within = omega (arith, r.within);
          same = close_gap_injective (f (suc n)) (f r.first) (f r.second) (other r.first (omega (arith, r.in_order, r.within))) (other r.second (omega (arith, r.within))) r.same;
        }
