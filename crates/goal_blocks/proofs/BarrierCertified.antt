-- The barrier by dissemination is certified, for every number of ranks up to 2,048 and every size.
use Rattle.std.proofs.Common.{⊎_elim, ℕ, zero, suc, ◌+◌, ◌-◌, ◌*◌, ◌^◌, ◌<◌, ◌≤◌, ◌≡◌, ◌⊎◌, nat_lt, inl, inr, Bool, true, false, [], ◌∷◌, map, length, if◌then◌else◌, refl, sym, ap, ◌∙◌, subst, arith, eq-eqb}
use Rattle.std.specs.List.{range_with_len, list_all}
use Rattle.std.proofs.Math.Nat.{pow-suc}
use Rattle.std.proofs.lemmas.Bool.{both_ways, lt-ltb, ne_eqb, cases_lt}
use Rattle.goal_limits.specs.Limits.{certified_rank_limit, rank_limit}
use Rattle.goal_limits.specs.declared.collective.Collective.TheVariants.{Barrier}
use Rattle.goal_blocks.specs.Values.{Contribution, Value, Store, is_lower, insert_one, merge}
use Rattle.goal_blocks.specs.Certification.{IsCertified}
use Rattle.goal_blocks.specs.Right.{IsRightEverywhere, IsRightFor}
use Rattle.goal_blocks.specs.Collectives.{single, of_each, initial, is_one, has_one, wanted}
use Rattle.goal_blocks.specs.Certified.{IsCertifiedFor}
use Rattle.goal_blocks.specs.Positions.{ahead, back, digits}
use Rattle.goal_blocks.specs.Made.{barrier_in}
use Rattle.goal_blocks.specs.Generated.{made}
use Rattle.goal_blocks.proofs.EntryFacts.{length_plans}
use Rattle.goal_blocks.proofs.Ring.{back_cases, back_ahead, ahead_back}
use Rattle.goal_blocks.proofs.RingAndTree.{ahead_below, back_below, power_below_digits_at_most, below_power_of_digits, digits_few}
use Rattle.goal_blocks.proofs.AllgatherCertified.{back_zero, back_back}
use Rattle.goal_blocks.proofs.Rounds.{pow_le, gained, rounds_right, rounds_are_certified}
use Rattle.goal_blocks.proofs.RoundsHeavy.{many_rounds, rounds_too_heavy}

has_one_of_cons : (d c : Contribution) (v : Value) (t : Bool) → is_one c d ≡ t → has_one (d ∷ v) c ≡ (if t then true else has_one v c)
unfolding has_one
has_one_of_cons d c v t e = ap (λ (b : Bool). if b then true else has_one v c) e

has_one_in_tail : (d c : Contribution) (v : Value) → has_one v c ≡ true → has_one (d ∷ v) c ≡ true
has_one_in_tail d c v has = go (is_one c d) refl
  where
    go : (t : Bool) → is_one c d ≡ t → has_one (d ∷ v) c ≡ true
    go true e = has_one_of_cons d c v true e
    go false e = has_one_of_cons d c v false e ∙ has

pub has_one_of_empty : (c : Contribution) → has_one [] c ≡ false
unfolding has_one
has_one_of_empty c = refl

-- the merge of two values has every contribution of each of them
pub has_one_inserted : (e c : Contribution) (v : Value) → is_one c e ≡ true → has_one (insert_one e v) c ≡ true
unfolding insert_one
has_one_inserted e c [] is = has_one_of_cons e c [] true is
has_one_inserted e c (d ∷ ds) is = go (has_one_inserted e c ds is) (is_lower e d)
  where
    go : has_one (insert_one e ds) c ≡ true → (b : Bool) → has_one (if b then e ∷ d ∷ ds else d ∷ insert_one e ds) c ≡ true
    go rest true = has_one_of_cons e c (d ∷ ds) true is
    go rest false = has_one_in_tail d c (insert_one e ds) rest

pub has_one_kept_by_insert : (e c : Contribution) (v : Value) → has_one v c ≡ true → has_one (insert_one e v) c ≡ true
unfolding insert_one
has_one_kept_by_insert e c [] has = absurd (both_ways _ (has_one_of_empty c) has)
has_one_kept_by_insert e c (d ∷ ds) has = go (λ h. has_one_kept_by_insert e c ds h) (is_one c d) refl (is_lower e d)
  where
    go : (has_one ds c ≡ true → has_one (insert_one e ds) c ≡ true) → (t : Bool) → is_one c d ≡ t → (b : Bool) → has_one (if b then e ∷ d ∷ ds else d ∷ insert_one e ds) c ≡ true
    go rest t f true = has_one_in_tail e c (d ∷ ds) has
    go rest true f false = has_one_of_cons d c (insert_one e ds) true f
    go rest false f false = has_one_in_tail d c (insert_one e ds) (rest (sym (has_one_of_cons d c ds false f) ∙ has))

has_one_of_left : (c : Contribution) (v w : Value) → has_one v c ≡ true → has_one (merge v w) c ≡ true
unfolding merge
has_one_of_left c [] w has = absurd (both_ways _ (has_one_of_empty c) has)
has_one_of_left c (e ∷ v) w has = go (λ h. has_one_of_left c v w h) (is_one c e) refl
  where
    go : (has_one v c ≡ true → has_one (merge v w) c ≡ true) → (t : Bool) → is_one c e ≡ t → has_one (insert_one e (merge v w)) c ≡ true
    go rest true f = has_one_inserted e c (merge v w) f
    go rest false f = has_one_kept_by_insert e c (merge v w) (rest (sym (has_one_of_cons e c v false f) ∙ has))

has_one_of_right : (c : Contribution) (v w : Value) → has_one w c ≡ true → has_one (merge v w) c ≡ true
unfolding merge
has_one_of_right c [] w has = has
has_one_of_right c (e ∷ v) w has = has_one_kept_by_insert e c (merge v w) (has_one_of_right c v w has)

all_range : {X : Type 0} (p : X → Bool) (f : ℕ → X) (a m : ℕ) → ((q : ℕ) → q < a + m → p (f q) ≡ true) → list_all p (map f (range_with_len a m)) ≡ true
all_range p f a zero each = refl
all_range p f a (suc m) each =
    rw (each a (omega arith), all_range p f (a + 1) m (λ q l. each q (omega (arith, l)))) refl

-- two steps back in the ring
back_of_back_adds : (ranks r a b : ℕ) → r < ranks → a + b < ranks → back ranks (back ranks r a) b ≡ back ranks r (a + b)
back_of_back_adds ranks r a b p q = go (back_cases ranks r a) (back_cases ranks (back ranks r a) b) (back_cases ranks r (a + b))
  where
    go : ((r < a) × (back ranks r a ≡ r + ranks - a)) ⊎ ((a ≤ r) × (back ranks r a ≡ r - a)) → ((back ranks r a < b) × (back ranks (back ranks r a) b ≡ back ranks r a + ranks - b)) ⊎ ((b ≤ back ranks r a) × (back ranks (back ranks r a) b ≡ back ranks r a - b)) → ((r < a + b) × (back ranks r (a + b) ≡ r + ranks - (a + b))) ⊎ ((a + b ≤ r) × (back ranks r (a + b) ≡ r - (a + b))) → back ranks (back ranks r a) b ≡ back ranks r (a + b)
    go (inl (x, e)) (inl (y, f)) (inl (z, g)) = omega (arith, p, q, x, e, y, f, z, g)
    go (inl (x, e)) (inl (y, f)) (inr (z, g)) = omega (arith, p, q, x, e, y, f, z, g)
    go (inl (x, e)) (inr (y, f)) (inl (z, g)) = omega (arith, p, q, x, e, y, f, z, g)
    go (inl (x, e)) (inr (y, f)) (inr (z, g)) = omega (arith, p, q, x, e, y, f, z, g)
    go (inr (x, e)) (inl (y, f)) (inl (z, g)) = omega (arith, p, q, x, e, y, f, z, g)
    go (inr (x, e)) (inl (y, f)) (inr (z, g)) = omega (arith, p, q, x, e, y, f, z, g)
    go (inr (x, e)) (inr (y, f)) (inl (z, g)) = omega (arith, p, q, x, e, y, f, z, g)
    go (inr (x, e)) (inr (y, f)) (inr (z, g)) = omega (arith, p, q, x, e, y, f, z, g)

module _ (ranks bytes : ℕ) (some : 0 < ranks) (few : ranks ≤ rank_limit) where
  abbrev n : ℕ
  n = digits (ranks - 1)

  abbrev to : ℕ → ℕ → ℕ
  to r k = ahead ranks r (2 ^ k)

  abbrev from : ℕ → ℕ → ℕ
  from r k = back ranks r (2 ^ k)

  power_of_round_below_ranks : (k : ℕ) → k < n → 2 ^ k < ranks
  power_of_round_below_ranks k l = let low = power_below_digits_at_most (ranks - 1) k (omega (arith, few)) l in omega (arith, low, some)

  target_is_rank : (r k : ℕ) → r < ranks → k < n → to r k < ranks
  target_is_rank r k inside l = let low = power_of_round_below_ranks k l in ahead_below ranks r (2 ^ k) inside (omega (arith, low))

  source_is_rank : (r k : ℕ) → r < ranks → k < n → from r k < ranks
  source_is_rank r k inside l = back_below ranks r (2 ^ k) inside

  from_inverts_to : (r k : ℕ) → r < ranks → k < n → from (to r k) k ≡ r
  from_inverts_to r k inside l = let low = power_of_round_below_ranks k l in back_ahead ranks r (2 ^ k) inside (omega (arith, low))

  to_inverts_from : (r k : ℕ) → r < ranks → k < n → to (from r k) k ≡ r
  to_inverts_from r k inside l = let low = power_of_round_below_ranks k l in ahead_back ranks r (2 ^ k) inside (omega (arith, low))

  abbrev value_after : ℕ → ℕ → Value
  value_after k r = gained ranks n bytes to from target_is_rank source_is_rank from_inverts_to to_inverts_from k r

  -- after k rounds slot 0 has a contribution of the rank itself and of each of the 2^k - 1 ranks before it
  has_one_of_each_preceding_rank : (k r d : ℕ) → r < ranks → k ≤ n → d < 2 ^ k → d < ranks → has_one (value_after k r) (record { rank = back ranks r d; item = 0 }) ≡ true
  unfolding gained
  has_one_of_each_preceding_rank zero r d inside l low under =
      let none : d ≡ 0 = omega (arith, low) in
      let own : back ranks r d ≡ r = ap (λ (m : ℕ). back ranks r m) none ∙ back_zero ranks r in
      has_one_of_cons (record { rank = r; item = 0 }) (record { rank = back ranks r d; item = 0 }) [] true (rw (eq-eqb (back ranks r d) r own) refl)
  has_one_of_each_preceding_rank (suc k) r d inside l low under =
      ⊎_elim (λ near. has_one_of_left (record { rank = back ranks r d; item = 0 }) (value_after k r) (value_after k (from r k)) (has_one_of_each_preceding_rank k r d inside (omega (arith, l)) near under)) (λ far. has_one_of_right (record { rank = back ranks r d; item = 0 }) (value_after k r) (value_after k (from r k)) (let twice = pow-suc 2 k in let whole : 2 ^ k + (d - 2 ^ k) ≡ d = omega (arith, far) in let same = back_of_back_adds ranks r (2 ^ k) (d - 2 ^ k) inside (omega (arith, whole, under)) ∙ ap (λ (m : ℕ). back ranks r m) whole in subst (λ (q : ℕ). has_one (value_after k (from r k)) (record { rank = q; item = 0 }) ≡ true) same (has_one_of_each_preceding_rank k (from r k) (d - 2 ^ k) (source_is_rank r k inside (omega (arith, l))) (omega (arith, l)) (omega (arith, low, twice, far)) (omega (arith, under))))) (cases_lt d (2 ^ k))

  wanted_at_end : (r : ℕ) → r < ranks → wanted Barrier ranks r 0 (value_after n r) ≡ true
  unfolding wanted of_each
  wanted_at_end r inside =
      rw (lt-ltb r ranks inside) (all_range (has_one (value_after n r)) (λ (q : ℕ). record { rank = q; item = 0 }) 0 ranks (λ q l. let under : q < ranks = omega (arith, l) in let d = back_below ranks r q inside in let high = below_power_of_digits (ranks - 1) n (omega (arith, few)) (omega arith) in subst (λ (k : ℕ). has_one (value_after n r) (record { rank = k; item = 0 }) ≡ true) (back_back ranks r q inside under) (has_one_of_each_preceding_rank n r (back ranks r q) inside (omega arith) (omega (arith, d, high)) d)))

  nothing_wanted_elsewhere : (r k : ℕ) (v : Value) → wanted Barrier ranks r (suc k) v ≡ true
  unfolding wanted
  nothing_wanted_elsewhere r k v = rw (ne_eqb (suc k) 0 (λ e. omega (arith, e))) (go (nat_lt r ranks))
    where
      go : (b : Bool) → (if b then true else true) ≡ true
      go true = refl
      go false = refl

  abbrev first : Store
  first = initial Barrier ranks

  barrier_slot_zero_starts_with_own : (r : ℕ) → r < ranks → first r 0 ≡ single r 0
  unfolding initial
  barrier_slot_zero_starts_with_own r inside = rw (lt-ltb r ranks inside) refl

  first_few : (r : ℕ) → length (first r 0) ≤ 1
  unfolding initial
  first_few r = go (nat_lt r ranks)
    where
      go : (b : Bool) → length (if b then single r 0 else []) ≤ 1
      go true = omega arith
      go false = omega arith

  first_empty_elsewhere : (r k : ℕ) → first r (suc k) ≡ []
  unfolding initial
  first_empty_elsewhere r k = rw (ne_eqb (suc k) 0 (λ e. omega (arith, e))) (go (nat_lt r ranks))
    where
      go : (b : Bool) → ◌≡◌ {A = Value} (if b then [] else []) []
      go true = refl
      go false = refl

  few_rounds : ranks ≤ certified_rank_limit → n ≤ 11
  few_rounds light = digits_few (ranks - 1) 11 (omega (arith, few)) (omega (arith, light, some))

  pub barrier_certified : ranks ≤ certified_rank_limit → IsCertifiedFor Barrier (made Barrier ranks bytes)
  unfolding made barrier_in
  barrier_certified light =
      let least = few_rounds light in
      subst (λ (m : ℕ). IsCertified (made Barrier ranks bytes) (initial Barrier m) (wanted Barrier m)) (sym (length_plans ranks (λ r. 3 * n) (λ r i. barrier_in ranks bytes r i))) (rounds_are_certified ranks n bytes to from target_is_rank source_is_rank from_inverts_to to_inverts_from first (wanted Barrier ranks) barrier_slot_zero_starts_with_own wanted_at_end (λ r s inside. inl (λ v. nothing_wanted_elsewhere r s v)) first_few first_empty_elsewhere light (let le = pow_le n 11 least in omega (arith, le)) least)

  -- whatever the number of ranks
  pub barrier_right : IsRightFor Barrier (made Barrier ranks bytes)
  unfolding made barrier_in
  barrier_right =
      subst (λ (m : ℕ). IsRightEverywhere (made Barrier ranks bytes) (initial Barrier m) (wanted Barrier m)) (sym (length_plans ranks (λ r. 3 * n) (λ r i. barrier_in ranks bytes r i))) (rounds_right ranks n bytes to from target_is_rank source_is_rank from_inverts_to to_inverts_from first (wanted Barrier ranks) barrier_slot_zero_starts_with_own wanted_at_end (λ r s inside. inl (λ v. nothing_wanted_elsewhere r s v)))

  -- with more ranks there are more than 11 rounds, and the contributions held exceed the limit
  pub barrier_heavy : certified_rank_limit < ranks → IsCertifiedFor Barrier (made Barrier ranks bytes) → ⊥
  unfolding made barrier_in
  barrier_heavy many c =
      rounds_too_heavy ranks n bytes to from target_is_rank source_is_rank from_inverts_to to_inverts_from first barrier_slot_zero_starts_with_own many few (many_rounds ranks many few) (wanted Barrier ranks) (subst (λ (m : ℕ). IsCertified (made Barrier ranks bytes) (initial Barrier m) (wanted Barrier m)) (length_plans ranks (λ r. 3 * n) (λ r i. barrier_in ranks bytes r i)) c)
