-- Following a function on the numbers below n: where it leads, and which number of a ring is the least.
use Rattle.std.proofs.Common.{ℕ, zero, suc, ◌+◌, ◌-◌, ◌<◌, ◌≤◌, ◌≡◌, ◌⊎◌, inl, inr, ⊎_elim, refl, sym, ap, ◌∙◌, subst, arith, zero-add}
use Rattle.std.proofs.lemmas.Bool.{cases_lt}
use Rattle.sim_cycles.specs.Walks.{after, Leads, ComesBack, IsHeadOf}
use Rattle.sim_cycles.proofs.Pigeons.{Collides, two_collide}

-- f has a least value at the numbers up to p
pub least_at : (f : ℕ → ℕ) (p : ℕ) → (j : ℕ) × (j ≤ p) × ((i : ℕ) → i ≤ p → f j ≤ f i)
least_at f zero = (0, omega arith, λ i h. let e : i ≡ 0 = omega arith in rw e (omega arith))
least_at f (suc p) = go (least_at f p) (λ j. cases_lt (f (suc p)) (f j))
  where
    go : ((j : ℕ) × (j ≤ p) × ((i : ℕ) → i ≤ p → f j ≤ f i)) → ((j : ℕ) → (f (suc p) < f j) ⊎ (f j ≤ f (suc p))) → (j : ℕ) × (j ≤ suc p) × ((i : ℕ) → i ≤ suc p → f j ≤ f i)
    go (j, within, least) cases = pick (cases j)
      where
        pick : (f (suc p) < f j) ⊎ (f j ≤ f (suc p)) → (j : ℕ) × (j ≤ suc p) × ((i : ℕ) → i ≤ suc p → f j ≤ f i)
        pick (inl less) = (suc p, omega arith, λ i h. ⊎_elim (λ below. omega (arith, less, least i (omega arith))) (λ (above : suc p ≤ i). let e : i ≡ suc p = omega (arith, above, h) in rw e (omega arith)) (cases_lt i (suc p)))
        pick (inr more) = (j, omega (arith, within), λ i h. ⊎_elim (λ below. least i (omega arith)) (λ above. let e : i ≡ suc p = omega arith in rw e more) (cases_lt i (suc p)))

module _ (t : ℕ → ℕ) where
  pub after_next : (k x : ℕ) → after t k (t x) ≡ t (after t k x)
  unfolding after
  after_next zero x = refl
  after_next (suc k) x = after_next k (t x)

  pub after_zero : (x : ℕ) → after t 0 x ≡ x
  unfolding after
  after_zero x = refl

  pub after_first : (k x : ℕ) → after t (suc k) x ≡ after t k (t x)
  unfolding after
  after_first k x = refl

  pub after_last : (k x : ℕ) → after t (suc k) x ≡ t (after t k x)
  after_last k x = after_first k x ∙ after_next k x

  pub after_add : (j k x : ℕ) → after t (j + k) x ≡ after t k (after t j x)
  unfolding after
  after_add zero k x = rw (zero-add k) refl
  after_add (suc j) k x = let e : suc j + k ≡ suc (j + k) = omega arith in rw e (after_add j k (t x))

  pub leads_reflexive : (x : ℕ) → Leads t x x
  leads_reflexive x = record { steps = 0; there = after_zero x }

  pub leads_transitive : (x y z : ℕ) → Leads t x y → Leads t y z → Leads t x z
  leads_transitive x y z a b = record {
    steps = a.steps + b.steps;
    there = after_add a.steps b.steps x ∙ ap (after t b.steps) a.there ∙ b.there;
  }

  -- a number of a ring leads back to each it leads to
  leads_back_from : (h : ℕ) → ComesBack t h → (k : ℕ) → Leads t (after t k h) h
  unfolding after
  leads_back_from h back zero = leads_reflexive h
  leads_back_from h back (suc k) = go (leads_back_from h back k)
    where
      on : (m : ℕ) → after t m (after t k h) ≡ h → Leads t (after t k (t h)) h
      on zero e = record { steps = back.steps; there = ap (after t back.steps) (after_next k h ∙ ap t e) ∙ back.there }
      on (suc m) e = record { steps = m; there = ap (after t m) (after_next k h) ∙ e }

      go : Leads t (after t k h) h → Leads t (after t k (t h)) h
      go r = on r.steps r.there

  pub leads_back : (h y : ℕ) → ComesBack t h → Leads t h y → Leads t y h
  leads_back h y back r = let P : ℕ → Type 0 = λ z. Leads t z h in subst P r.there (leads_back_from h back r.steps)

  -- of two numbers on one way one leads to the other
  pub leads_either : (x y z : ℕ) → Leads t x y → Leads t x z → Leads t y z ⊎ Leads t z y
  leads_either x y z a b = go (cases_lt a.steps b.steps)
    where
      onward : (u v : ℕ) (j k : ℕ) → j ≤ k → after t j x ≡ u → after t k x ≡ v → Leads t u v
      onward u v j k h p q =
          let e : j + (k - j) ≡ k = omega arith in
          record { steps = k - j; there = ap (after t (k - j)) (sym p) ∙ sym (after_add j (k - j) x) ∙ ap (λ m. after t m x) e ∙ q }

      go : (a.steps < b.steps) ⊎ (b.steps ≤ a.steps) → Leads t y z ⊎ Leads t z y
      go (inl less) = inl (onward y z a.steps b.steps (omega arith) a.there b.there)
      go (inr more) = inr (onward z y b.steps a.steps more b.there a.there)

  least_leads : (h y : ℕ) → ((k : ℕ) → h ≤ after t k h) → Leads t h y → h ≤ y
  least_leads h y least r = omega (arith, least r.steps, r.there)

  -- a number has one head at most
  pub one_head : (x h g : ℕ) → IsHeadOf t x h → IsHeadOf t x g → h ≡ g
  one_head x h g a b = go (leads_either x h g a.comes b.comes)
    where
      both : Leads t h g → Leads t g h → h ≡ g
      both p q = omega (arith, least_leads h g a.least p, least_leads g h b.least q)

      go : Leads t h g ⊎ Leads t g h → h ≡ g
      go (inl p) = both p (leads_back h g a.back p)
      go (inr q) = both (leads_back g h b.back q) q

  -- what leads to y has the head of y
  pub head_from : (x y h : ℕ) → Leads t x y → IsHeadOf t y h → IsHeadOf t x h
  head_from x y h r a = record { comes = leads_transitive x y h r a.comes; back = a.back; least = a.least }

  -- a number that comes back after p + 1 steps leads only to those of the first steps
  multiples_of_a_round : (c p : ℕ) → after t (suc p) c ≡ c → (k : ℕ) → (j : ℕ) × (j ≤ p) × (after t k c ≡ after t j c)
  multiples_of_a_round c p back zero = (0, omega arith, refl)
  multiples_of_a_round c p back (suc k) = go (multiples_of_a_round c p back k)
    where
      go : ((j : ℕ) × (j ≤ p) × (after t k c ≡ after t j c)) → (j : ℕ) × (j ≤ p) × (after t (suc k) c ≡ after t j c)
      go (j, within, e) = on (cases_lt j p)
        where
          e' : after t (suc k) c ≡ after t (suc j) c
          e' = after_last k c ∙ ap t e ∙ sym (after_last j c)

          on : (j < p) ⊎ (p ≤ j) → (j : ℕ) × (j ≤ p) × (after t (suc k) c ≡ after t j c)
          on (inl less) = (suc j, omega arith, e')
          on (inr more) = let same : j ≡ p = omega (arith, within) in (0, omega arith, e' ∙ ap (λ m. after t (suc m) c) same ∙ back ∙ sym (after_zero c))

  -- of the numbers on a ring with c the least is their head
  pub head_at : (c p j h : ℕ) → after t (suc p) c ≡ c → h ≡ after t j c → ((i : ℕ) → i ≤ p → h ≤ after t i c) → IsHeadOf t c h
  head_at c p j h whole place least = record {
    comes = record { steps = j; there = sym place };
    back = record {
      steps = p;
      there = sym (after_first p h) ∙ ap (after t (suc p)) place ∙ sym (after_add j (suc p) c) ∙ ap (λ m. after t m c) (let e : j + suc p ≡ suc p + j = omega arith in e) ∙ after_add (suc p) j c ∙ ap (after t j) whole ∙ sym place;
    };
    least = λ k. let r = multiples_of_a_round c p whole (j + k) in omega (arith, least r.0 r.1, r.2, after_add j k c, ap (after t k) place);
  }

  -- a number that comes back has a head
  pub head_of_round : (c : ℕ) → ComesBack t c → (h : ℕ) × IsHeadOf t c h
  head_of_round c back = go (least_at (λ k. after t k c) back.steps)
    where
      go : ((j : ℕ) × (j ≤ back.steps) × ((i : ℕ) → i ≤ back.steps → after t j c ≤ after t i c)) → (h : ℕ) × IsHeadOf t c h
      go (j, within, least) = (after t j c, head_at c back.steps j (after t j c) (after_first back.steps c ∙ back.there) refl least)

  module _ (n : ℕ) (closed : (i : ℕ) → i < n → t i < n) where
    pub after_below : (k x : ℕ) → x < n → after t k x < n
    unfolding after
    after_below zero x h = h
    after_below (suc k) x h = after_below k (t x) (closed x h)

    -- two of the first steps lead to one number
    meets : (x : ℕ) → x < n → Collides (λ k. after t k x) n
    meets x h = two_collide n (λ k. after t k x) (λ k _. after_below k x h)

    -- a way of any length has a short one
    shorter : (fuel k x : ℕ) → x < n → k ≤ fuel → (j : ℕ) × (j < n) × (after t j x ≡ after t k x)
    shorter zero k x h le = (k, omega (arith, h, le), refl)
    shorter (suc fuel) k x h le = go (cases_lt k n) (meets x h) (λ j. shorter fuel j x h)
      where
        go : (k < n) ⊎ (n ≤ k) → Collides (λ k. after t k x) n → ((j : ℕ) → j ≤ fuel → (i : ℕ) × (i < n) × (after t i x ≡ after t j x)) → (j : ℕ) × (j < n) × (after t j x ≡ after t k x)
        go (inl less) m rest = (k, less, refl)
        go (inr more) m rest =
            let r = rest (m.first + (k - m.second)) (omega (arith, m.in_order, m.within)) in
            let e : m.second + (k - m.second) ≡ k = omega (arith, m.within) in (
              r.0,
              r.1,
              r.2 ∙ after_add m.first (k - m.second) x ∙ ap (after t (k - m.second)) m.same ∙ sym (after_add m.second (k - m.second) x) ∙ ap (λ i. after t i x) e,
            )

    pub leads_soon : (x y : ℕ) → x < n → Leads t x y → (j : ℕ) × (j < n) × (after t j x ≡ y)
    leads_soon x y h r = let s = shorter r.steps r.steps x h (omega arith) in (s.0, s.1, s.2 ∙ r.there)

    -- every number has a head
    pub has_head : (x : ℕ) → x < n → (h : ℕ) × IsHeadOf t x h
    has_head x h = go (meets x h)
      where
        go : Collides (λ k. after t k x) n → (h : ℕ) × IsHeadOf t x h
        go m =
            let c = after t m.first x in
            let e : m.first + suc (m.second - m.first - 1) ≡ m.second = omega (arith, m.in_order) in
            let back : ComesBack t c = record {
              steps = m.second - m.first - 1;
              there = sym (after_first (m.second - m.first - 1) c) ∙ sym (after_add m.first (suc (m.second - m.first - 1)) x) ∙ ap (λ i. after t i x) e ∙ sym m.same;
            } in
            let r = head_of_round c back in
            (r.0, head_from x c r.0 (record { steps = m.first; there = refl }) r.1)

    pub head_below : (x h : ℕ) → x < n → IsHeadOf t x h → h < n
    head_below x h below a = let P : ℕ → Type 0 = λ z. z < n in subst P a.comes.there (after_below a.comes.steps x below)

    -- what x leads to has the head of x
    pub head_on : (x y h : ℕ) → x < n → Leads t x y → IsHeadOf t x h → IsHeadOf t y h
    head_on x y h below r a =
        let inside : y < n = let P : ℕ → Type 0 = λ z. z < n in subst P r.there (after_below r.steps x below) in
        let g = has_head y inside in
        subst (IsHeadOf t y) (sym (one_head x h g.0 a (head_from x y g.0 r g.1))) g.1
