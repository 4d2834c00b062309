-- The allreduce by recursive doubling is certified, for every power of two up to 2,048 ranks and every size.
use Rattle.std.proofs.Common.{⊎_elim, ℕ, zero, suc, ◌+◌, ◌-◌, ◌*◌, ◌/◌, ◌%◌, ◌^◌, ◌<◌, ◌≤◌, ◌≡◌, ◌⊎◌, nat_lt, inl, inr, Bool, true, false, [], length, if◌then◌else◌, refl, sym, ap, ◌∙◌, subst, arith}
use Rattle.std.proofs.Math.Nat.{pow-suc}
use Rattle.std.proofs.lemmas.Bool.{lt-ltb, ne_eqb, cases_lt, cases_eq}
use Rattle.std.proofs.lemmas.Nat.{pow_pos, div-mul-add, div-add-mod', mod_below}
use Rattle.goal_limits.specs.Limits.{certified_rank_limit, rank_limit}
use Rattle.goal_limits.specs.declared.collective.Collective.TheVariants.{Allreduce}
use Rattle.goal_blocks.specs.Values.{Value, Store, merge}
use Rattle.goal_blocks.specs.Certification.{IsCertified}
use Rattle.goal_blocks.specs.Right.{IsRightEverywhere, IsRightFor}
use Rattle.goal_blocks.specs.Collectives.{single, of_each, initial, wanted}
use Rattle.goal_blocks.specs.Certified.{IsCertifiedFor}
use Rattle.goal_blocks.specs.Positions.{flipped, digits}
use Rattle.goal_blocks.specs.Made.{allreduce_in}
use Rattle.goal_blocks.specs.Generated.{made}
use Rattle.goal_blocks.proofs.EntryFacts.{length_plans}
use Rattle.goal_blocks.proofs.RingAndTree.{flipped_below, below_power_of_digits, digits_few}
use Rattle.goal_blocks.proofs.Runs.{run, merge_before, merge_after, run_is_mapped_range}
use Rattle.goal_blocks.proofs.Rounds.{pow_le, gained, rounds_right, rounds_are_certified}
use Rattle.goal_blocks.proofs.RoundsHeavy.{many_rounds, rounds_too_heavy}
use Rattle.goal_blocks.proofs.Wishes.{is_value_reflexive}

-- the rank with the other binary digit
flipped_even : (h k x : ℕ) → x < 2 ^ k → flipped (2 * h * 2 ^ k + x) k ≡ (2 * h + 1) * 2 ^ k + x
unfolding flipped
flipped_even h k x l =
    let q = div-mul-add (2 * h) (2 ^ k) x l in
    let even : 2 * h % 2 ≡ 0 = omega arith in
    rw (q, even) (grind arith)

flipped_odd : (h k x : ℕ) → x < 2 ^ k → flipped ((2 * h + 1) * 2 ^ k + x) k ≡ 2 * h * 2 ^ k + x
unfolding flipped
flipped_odd h k x l =
    let q = div-mul-add (2 * h + 1) (2 ^ k) x l in
    let odd : (2 * h + 1) % 2 ≡ 1 = omega arith in
    let whole : (2 * h + 1) * 2 ^ k ≡ 2 * h * 2 ^ k + 2 ^ k = grind arith in
    rw (q, odd) (omega (arith, whole))

-- a rank by its binary digit of 2^k
record HasDigit (r k : ℕ) : Type 0 where
  half : ℕ
  rest : ℕ
  low : rest < 2 ^ k
  is : (r ≡ 2 * half * 2 ^ k + rest) ⊎ (r ≡ (2 * half + 1) * 2 ^ k + rest)

digit_of : (r k : ℕ) → HasDigit r k
digit_of r k =
    record { half = r / 2 ^ k / 2; rest = r % 2 ^ k; low = mod_below r (2 ^ k) (pow_pos k); is = ⊎_elim (λ e. inl (sym (div-add-mod' r (2 ^ k)) ∙ ap (λ (q : ℕ). q * 2 ^ k + r % 2 ^ k) (even e))) (λ d. inr (sym (div-add-mod' r (2 ^ k)) ∙ ap (λ (q : ℕ). q * 2 ^ k + r % 2 ^ k) (odd d))) (cases_eq (r / 2 ^ k % 2) 0) }
  where
    even : r / 2 ^ k % 2 ≡ 0 → r / 2 ^ k ≡ 2 * (r / 2 ^ k / 2)
    even e = halves (r / 2 ^ k) e
      where
        halves : (q : ℕ) → q % 2 ≡ 0 → q ≡ 2 * (q / 2)
        halves q f = omega (arith, f)

    odd : (r / 2 ^ k % 2 ≡ 0 → ⊥) → r / 2 ^ k ≡ 2 * (r / 2 ^ k / 2) + 1
    odd d = halves (r / 2 ^ k) d
      where
        halves : (q : ℕ) → (q % 2 ≡ 0 → ⊥) → q ≡ 2 * (q / 2) + 1
        halves q f = omega (arith, f)

flipped_twice : (r k : ℕ) → flipped (flipped r k) k ≡ r
flipped_twice r k = go (digit_of r k).is
  where
    go : (r ≡ 2 * (digit_of r k).half * 2 ^ k + (digit_of r k).rest) ⊎ (r ≡ (2 * (digit_of r k).half + 1) * 2 ^ k + (digit_of r k).rest) → flipped (flipped r k) k ≡ r
    go (inl e) =
        ap (λ (s : ℕ). flipped (flipped s k) k) e ∙ ap (λ (s : ℕ). flipped s k) (flipped_even (digit_of r k).half k (digit_of r k).rest (digit_of r k).low) ∙ flipped_odd (digit_of r k).half k (digit_of r k).rest (digit_of r k).low ∙ sym e
    go (inr e) =
        ap (λ (s : ℕ). flipped (flipped s k) k) e ∙ ap (λ (s : ℕ). flipped s k) (flipped_odd (digit_of r k).half k (digit_of r k).rest (digit_of r k).low) ∙ flipped_even (digit_of r k).half k (digit_of r k).rest (digit_of r k).low ∙ sym e

module _ (m bytes : ℕ) (few : 2 ^ m ≤ rank_limit) where
  abbrev ranks : ℕ
  ranks = 2 ^ m

  abbrev n : ℕ
  n = digits (ranks - 1)

  rounds_are_m : n ≡ m
  rounds_are_m = ⊎_elim (λ less. absurd (below (m - 1) less (omega (arith, less)))) (λ more. omega (arith, more, at_most)) (cases_lt n m)
    where
      some : 0 < 2 ^ m
      some = pow_pos m

      at_most : n ≤ m
      at_most = digits_few (ranks - 1) m (omega (arith, few)) (omega (arith, some))

      below : (j : ℕ) → n < m → suc j ≡ m → ⊥
      below j less e =
          let high = below_power_of_digits (ranks - 1) n (omega (arith, few)) (omega arith) in
          let le = pow_le n j (omega (arith, less, e)) in
          let twice = pow-suc 2 j in
          let whole = ap (λ (k : ℕ). 2 ^ k) e in
          let one = pow_pos j in
          omega (arith, high, le, twice, whole, one)

  flipped_is_rank : (r k : ℕ) → r < ranks → k < n → flipped r k < ranks
  flipped_is_rank r k inside l = let same = rounds_are_m in flipped_below m r k inside (omega (arith, l, same))

  flipped_twice_of_rank : (r k : ℕ) → r < ranks → k < n → flipped (flipped r k) k ≡ r
  flipped_twice_of_rank r k inside l = flipped_twice r k

  abbrev value_after : ℕ → ℕ → Value
  value_after k r = gained ranks n bytes flipped flipped flipped_is_rank flipped_is_rank flipped_twice_of_rank flipped_twice_of_rank k r

  -- merging two adjacent runs gives one run, both at a rank of the lower and at one of the upper run
  joined_low : (k q x : ℕ) → x < 2 ^ k → value_after k (2 * q * 2 ^ k + x) ≡ run (2 * q * 2 ^ k) (2 ^ k) → value_after k ((2 * q + 1) * 2 ^ k + x) ≡ run ((2 * q + 1) * 2 ^ k) (2 ^ k) → value_after (suc k) (q * 2 ^ suc k + x) ≡ run (q * 2 ^ suc k) (2 ^ suc k)
  unfolding gained
  joined_low k q x near mine others =
      (λ i. merge (value_after k (same i)) (value_after k (flipped (same i) k))) ∙ (let other = ap (λ (r : ℕ). value_after k r) (flipped_even q k x near) ∙ others in λ i. merge (mine i) (other i)) ∙ ap (λ (a : ℕ). merge (run (2 * q * 2 ^ k) (2 ^ k)) (run a (2 ^ k))) next ∙ merge_before (2 * q * 2 ^ k) (2 ^ k) (2 ^ k) ∙ (λ i. run (start i) (size i))
    where
      twice : 2 ^ suc k ≡ 2 ^ k * 2
      twice = pow-suc 2 k

      size : 2 ^ k + 2 ^ k ≡ 2 ^ suc k
      size = omega (arith, twice)

      start : 2 * q * 2 ^ k ≡ q * 2 ^ suc k
      start = (let e : 2 * q * 2 ^ k ≡ q * (2 ^ k * 2) = grind arith in e) ∙ ap (λ (w : ℕ). q * w) (sym twice)

      same : q * 2 ^ suc k + x ≡ 2 * q * 2 ^ k + x
      same = ap (λ (w : ℕ). w + x) (sym start)

      next : (2 * q + 1) * 2 ^ k ≡ 2 * q * 2 ^ k + 2 ^ k
      next = grind arith

  joined_high : (k q x y : ℕ) → y < 2 ^ k → x ≡ 2 ^ k + y → value_after k ((2 * q + 1) * 2 ^ k + y) ≡ run ((2 * q + 1) * 2 ^ k) (2 ^ k) → value_after k (2 * q * 2 ^ k + y) ≡ run (2 * q * 2 ^ k) (2 ^ k) → value_after (suc k) (q * 2 ^ suc k + x) ≡ run (q * 2 ^ suc k) (2 ^ suc k)
  unfolding gained
  joined_high k q x y near far mine others =
      (λ i. merge (value_after k (same i)) (value_after k (flipped (same i) k))) ∙ (let other = ap (λ (r : ℕ). value_after k r) (flipped_odd q k y near) ∙ others in λ i. merge (mine i) (other i)) ∙ ap (λ (a : ℕ). merge (run a (2 ^ k)) (run (2 * q * 2 ^ k) (2 ^ k))) next ∙ merge_after (2 * q * 2 ^ k) (2 ^ k) (2 ^ k) ∙ (λ i. run (start i) (size i))
    where
      twice : 2 ^ suc k ≡ 2 ^ k * 2
      twice = pow-suc 2 k

      size : 2 ^ k + 2 ^ k ≡ 2 ^ suc k
      size = omega (arith, twice)

      start : 2 * q * 2 ^ k ≡ q * 2 ^ suc k
      start = (let e : 2 * q * 2 ^ k ≡ q * (2 ^ k * 2) = grind arith in e) ∙ ap (λ (w : ℕ). q * w) (sym twice)

      next : (2 * q + 1) * 2 ^ k ≡ 2 * q * 2 ^ k + 2 ^ k
      next = grind arith

      same : q * 2 ^ suc k + x ≡ (2 * q + 1) * 2 ^ k + y
      same = omega (arith, start, next, far)

  -- after k rounds slot 0 has a contribution of each rank that agrees in the binary digits from that of 2^k on
  value_after_rounds : (k q x : ℕ) → x < 2 ^ k → value_after k (q * 2 ^ k + x) ≡ run (q * 2 ^ k) (2 ^ k)
  unfolding gained run
  value_after_rounds zero q x l = let e : q * 2 ^ 0 + x ≡ q * 2 ^ 0 = omega (arith, l) in ap (λ (r : ℕ). single r 0) e
  value_after_rounds (suc k) q x l =
      ⊎_elim (λ near. joined_low k q x near (value_after_rounds k (2 * q) x near) (value_after_rounds k (2 * q + 1) x near)) (λ far. let twice = pow-suc 2 k in let small : x - 2 ^ k < 2 ^ k = omega (arith, l, twice, far) in joined_high k q x (x - 2 ^ k) small (omega (arith, far)) (value_after_rounds k (2 * q + 1) (x - 2 ^ k) small) (value_after_rounds k (2 * q) (x - 2 ^ k) small)) (cases_lt x (2 ^ k))

  value_after_all_rounds : (r : ℕ) → r < ranks → value_after n r ≡ of_each ranks 0
  unfolding of_each
  value_after_all_rounds r inside =
      let same = rounds_are_m in
      let power = ap (λ (k : ℕ). 2 ^ k) same in
      let at : 0 * 2 ^ n + r ≡ r = omega arith in
      let start : 0 * 2 ^ n ≡ 0 = omega arith in
      ap (λ (s : ℕ). value_after n s) (sym at) ∙ value_after_rounds n 0 r (omega (arith, inside, power)) ∙ (λ i. run (start i) (power i)) ∙ run_is_mapped_range 0 ranks

  wanted_at_end : (r : ℕ) → r < ranks → wanted Allreduce ranks r 0 (value_after n r) ≡ true
  unfolding wanted
  wanted_at_end r inside =
      subst (λ (v : Value). wanted Allreduce ranks r 0 v ≡ true) (sym (value_after_all_rounds r inside)) (rw (lt-ltb r ranks inside) (is_value_reflexive (of_each ranks 0)))

  nothing_wanted_elsewhere : (r k : ℕ) (v : Value) → wanted Allreduce ranks r (suc k) v ≡ true
  unfolding wanted
  nothing_wanted_elsewhere r k v = rw (ne_eqb (suc k) 0 (λ e. omega (arith, e))) (go (nat_lt r ranks))
    where
      go : (b : Bool) → (if b then true else true) ≡ true
      go true = refl
      go false = refl

  abbrev first : Store
  first = initial Allreduce ranks

  allreduce_slot_zero_starts_with_own : (r : ℕ) → r < ranks → first r 0 ≡ single r 0
  unfolding initial
  allreduce_slot_zero_starts_with_own r inside = rw (lt-ltb r ranks inside) refl

  first_few : (r : ℕ) → length (first r 0) ≤ 1
  unfolding initial
  first_few r = go (nat_lt r ranks)
    where
      go : (b : Bool) → length (if b then single r 0 else []) ≤ 1
      go true = omega arith
      go false = omega arith

  first_empty_elsewhere : (r k : ℕ) → first r (suc k) ≡ []
  unfolding initial
  first_empty_elsewhere r k = rw (ne_eqb (suc k) 0 (λ e. omega (arith, e))) (go (nat_lt r ranks))
    where
      go : (b : Bool) → ◌≡◌ {A = Value} (if b then [] else []) []
      go true = refl
      go false = refl

  few_rounds : ranks ≤ certified_rank_limit → n ≤ 11
  few_rounds light = let some = pow_pos m in digits_few (ranks - 1) 11 (omega (arith, few)) (omega (arith, light, some))

  pub allreduce_certified : ranks ≤ certified_rank_limit → IsCertifiedFor Allreduce (made Allreduce ranks bytes)
  unfolding made allreduce_in
  allreduce_certified light =
      let least = few_rounds light in
      subst (λ (k : ℕ). IsCertified (made Allreduce ranks bytes) (initial Allreduce k) (wanted Allreduce k)) (sym (length_plans ranks (λ r. 3 * n) (λ r i. allreduce_in bytes r i))) (rounds_are_certified ranks n bytes flipped flipped flipped_is_rank flipped_is_rank flipped_twice_of_rank flipped_twice_of_rank first (wanted Allreduce ranks) allreduce_slot_zero_starts_with_own wanted_at_end (λ r s inside. inl (λ v. nothing_wanted_elsewhere r s v)) first_few first_empty_elsewhere light (let le = pow_le n 11 least in omega (arith, le)) least)

  -- whatever the number of ranks
  pub allreduce_right : IsRightFor Allreduce (made Allreduce ranks bytes)
  unfolding made allreduce_in
  allreduce_right =
      subst (λ (k : ℕ). IsRightEverywhere (made Allreduce ranks bytes) (initial Allreduce k) (wanted Allreduce k)) (sym (length_plans ranks (λ r. 3 * n) (λ r i. allreduce_in bytes r i))) (rounds_right ranks n bytes flipped flipped flipped_is_rank flipped_is_rank flipped_twice_of_rank flipped_twice_of_rank first (wanted Allreduce ranks) allreduce_slot_zero_starts_with_own wanted_at_end (λ r s inside. inl (λ v. nothing_wanted_elsewhere r s v)))

  -- with more ranks there are more than 11 rounds, and the contributions held exceed the limit
  pub allreduce_heavy : certified_rank_limit < ranks → IsCertifiedFor Allreduce (made Allreduce ranks bytes) → ⊥
  unfolding made allreduce_in
  allreduce_heavy many c =
      rounds_too_heavy ranks n bytes flipped flipped flipped_is_rank flipped_is_rank flipped_twice_of_rank flipped_twice_of_rank first allreduce_slot_zero_starts_with_own many few (many_rounds ranks many few) (wanted Allreduce ranks) (subst (λ (k : ℕ). IsCertified (made Allreduce ranks bytes) (initial Allreduce k) (wanted Allreduce k)) (length_plans ranks (λ r. 3 * n) (λ r i. allreduce_in bytes r i)) c)
