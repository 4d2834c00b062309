-- The binomial tree of virtual ranks: v has the children v + 2^j for the rounds j below `rounds ranks v`. A virtual rank c
-- above 0 has the parent c - 2^low c, and is its child of the round low c. `low 0` is 32, above each round.
use Rattle.std.proofs.Common.{◌≡◌, ◌⊎◌, ℕ, zero, suc, ◌+◌, ◌-◌, ◌/◌, ◌%◌, ◌^◌, ◌<◌, ◌≤◌, inl, inr, ⊎_elim, refl, sym, ap, subst, arith, min}
use Rattle.std.specs.Int.Count.{count_trailing_zeros, under, trailing_of_zero}
use Rattle.std.proofs.Math.Nat.{pow-suc}
use Rattle.std.proofs.Math.Pow.{pow_mono}
use Rattle.std.proofs.lemmas.Bool.{cases_lt}
use Rattle.goal_limits.specs.Limits.{rank_limit}
use Rattle.goal_blocks.specs.Positions.{digits, low, rounds}
use Rattle.goal_blocks.proofs.RingAndTree.{power_below_digits_at_most, below_power_of_digits, digits_some}
use Rattle.goal_blocks.proofs.Trees.{rounds_few, rounds_zero, rounds_above}

-- the lowest binary digit 1 of a number

-- t is one of the k digits of n, and 2^t is at most n
pub record IsLowest (k n t : ℕ) : Type 0 where
  pub few : t < k
  pub within : 2 ^ t ≤ n

lowest : (k n : ℕ) → 0 < n → n < 2 ^ k → IsLowest k n (count_trailing_zeros k n)
unfolding count_trailing_zeros
lowest zero n some few = absurd (omega arith)
lowest (suc k) n some few = go (n % 2) refl (lowest k (n / 2))
  where
    go : (d : ℕ) → n % 2 ≡ d → (0 < n / 2 → n / 2 < 2 ^ k → IsLowest k (n / 2) (count_trailing_zeros k (n / 2))) → IsLowest (suc k) n (under d (count_trailing_zeros k (n / 2)))
    go zero e rest =
        let bound = pow-suc 2 k in
        let half = rest (omega arith) (omega (arith, bound)) in
        let up = pow-suc 2 (count_trailing_zeros k (n / 2)) in
        record { few = omega (arith, half.few); within = omega (arith, half.within, up) }
    go (suc d) e rest = record { few = omega arith; within = omega arith }

pub low_is_lowest : (n : ℕ) → 0 < n → n < 2 ^ 32 → IsLowest 32 n (low n)
unfolding low
low_is_lowest n some few = lowest 32 n some few

-- a digit that is set below the lowest 1 becomes the lowest 1
trailing_set : (k j n : ℕ) → j < count_trailing_zeros k n → count_trailing_zeros k (n + 2 ^ j) ≡ j
unfolding count_trailing_zeros
trailing_set zero j n lt = absurd (omega (arith, lt))
trailing_set (suc k) zero n lt = go (n % 2) refl lt
  where
    go : (d : ℕ) → n % 2 ≡ d → 0 < under d (count_trailing_zeros k (n / 2)) → under ((n + 1) % 2) (count_trailing_zeros k ((n + 1) / 2)) ≡ 0
    go zero even less =
        let odd : (n + 1) % 2 ≡ 1 = omega (arith, even) in
        rw odd refl
    go (suc d) odd less = absurd (omega (arith, less))
trailing_set (suc k) (suc j) n lt = go (n % 2) refl lt (trailing_set k j (n / 2))
  where
    go : (d : ℕ) → n % 2 ≡ d → suc j < under d (count_trailing_zeros k (n / 2)) → (j < count_trailing_zeros k (n / 2) → count_trailing_zeros k (n / 2 + 2 ^ j) ≡ j) → under ((n + 2 ^ suc j) % 2) (count_trailing_zeros k ((n + 2 ^ suc j) / 2)) ≡ suc j
    go zero even less rest =
        let up = pow-suc 2 j in
        let still : (n + 2 ^ suc j) % 2 ≡ 0 = omega (arith, even, up) in
        let half : (n + 2 ^ suc j) / 2 ≡ n / 2 + 2 ^ j = omega (arith, even, up) in
        rw (still, half) (ap suc (rest (omega (arith, less))))
    go (suc d) odd less rest = absurd (omega (arith, less))

-- when the lowest 1 is cleared, the next one is higher
trailing_taken : (k n : ℕ) → count_trailing_zeros k n < k → count_trailing_zeros k n < count_trailing_zeros k (n - 2 ^ count_trailing_zeros k n)
unfolding count_trailing_zeros
trailing_taken zero n lt = absurd (omega (arith, lt))
trailing_taken (suc k) n lt = go (n % 2) refl lt (trailing_taken k (n / 2))
  where
    go : (d : ℕ) → n % 2 ≡ d → under d (count_trailing_zeros k (n / 2)) < suc k → (count_trailing_zeros k (n / 2) < k → count_trailing_zeros k (n / 2) < count_trailing_zeros k (n / 2 - 2 ^ count_trailing_zeros k (n / 2))) → under d (count_trailing_zeros k (n / 2)) < under ((n - 2 ^ under d (count_trailing_zeros k (n / 2))) % 2) (count_trailing_zeros k ((n - 2 ^ under d (count_trailing_zeros k (n / 2))) / 2))
    go zero even less rest =
        let up = pow-suc 2 (count_trailing_zeros k (n / 2)) in
        let still : (n - 2 ^ suc (count_trailing_zeros k (n / 2))) % 2 ≡ 0 = omega (arith, even, up) in
        let half : (n - 2 ^ suc (count_trailing_zeros k (n / 2))) / 2 ≡ n / 2 - 2 ^ count_trailing_zeros k (n / 2) = omega (arith, even, up) in
        let above = rest (omega (arith, less)) in
        rw (still, half) (omega (arith, above))
    go (suc d) odd less rest =
        let even : (n - 1) % 2 ≡ 0 = omega (arith, odd) in
        rw even (omega arith)

low_set : (n j : ℕ) → j < low n → low (n + 2 ^ j) ≡ j
unfolding low
low_set n j lt = trailing_set 32 j n lt

low_taken : (n : ℕ) → low n < 32 → low n < low (n - 2 ^ low n)
unfolding low
low_taken n lt = trailing_taken 32 n lt

pub low_zero : low 0 ≡ 32
unfolding low
low_zero = trailing_of_zero 32

-- parents and children

-- the parent p of c is lower by 2^low c, and has it as its child in round low c
pub record IsParent (ranks c p : ℕ) : Type 0 where
  pub child : p + 2 ^ low c ≡ c
  pub round : low c < rounds ranks p

-- w is in the block of the child of v of the round j
pub record IsInRound (ranks v w j : ℕ) : Type 0 where
  pub round : j < rounds ranks v
  pub from : v + 2 ^ j ≤ w
  pub before : w < v + 2 ^ j + 2 ^ j

module _ (ranks : ℕ) (few : ranks ≤ rank_limit) where
  -- all rounds of a virtual rank are below its lowest digit 1
  pub rounds_low : (v : ℕ) → rounds ranks v ≤ low v
  rounds_low zero =
      let most = rounds_few ranks few 0 in
      let none = low_zero in
      omega (arith, most, none)
  rounds_low (suc w) =
      let e = rounds_above ranks few (suc w) (omega arith) in
      rw e (omega arith)

  -- a round below the lowest digit 1 exists if its child does
  pub round_with_child_exists : (v j : ℕ) → j < low v → v + 2 ^ j < ranks → j < rounds ranks v
  round_with_child_exists zero j lt child = rw (rounds_zero ranks few) (go (cases_lt j (digits (ranks - 1))))
    where
      go : (j < digits (ranks - 1)) ⊎ (digits (ranks - 1) ≤ j) → j < digits (ranks - 1)
      go (inl is) = is
      go (inr le) = absurd (let high = below_power_of_digits (ranks - 1) j (omega (arith, few)) le in omega (arith, high, child))
  round_with_child_exists (suc w) j lt child =
      let e = rounds_above ranks few (suc w) (omega arith) in
      rw e (go (cases_lt j (digits (ranks - 1 - suc w))))
    where
      go : (j < digits (ranks - 1 - suc w)) ⊎ (digits (ranks - 1 - suc w) ≤ j) → j < min (low (suc w)) (digits (ranks - 1 - suc w))
      go (inl is) = omega (arith, is, lt)
      go (inr le) = absurd (let high = below_power_of_digits (ranks - 1 - suc w) j (omega (arith, few)) le in omega (arith, high, child))

  -- the child of a round has the round's digit as its lowest
  pub child_low : (v j : ℕ) → j < rounds ranks v → low (v + 2 ^ j) ≡ j
  child_low v j lt = let most = rounds_low v in low_set v j (omega (arith, lt, most))

  pub parent_without_low_digit : (c : ℕ) → 0 < c → c < ranks → IsParent ranks c (c - 2 ^ low c)
  parent_without_low_digit c some inside =
      let lowest = low_is_lowest c some (omega (arith, inside, few)) in
      let above = low_taken c lowest.few in
      let within = lowest.within in
      let child : c - 2 ^ low c + 2 ^ low c ≡ c = omega (arith, within) in
      record { child = child; round = round_with_child_exists (c - 2 ^ low c) (low c) above (omega (arith, child, inside)) }

  -- the block of v, which are the virtual ranks from v on to before v + 2^low v, is v and the blocks of its children

  -- the round of v whose child has w in its block
  pub round_of_descendant : (v w : ℕ) → v < w → w < ranks → w < v + 2 ^ low v → (j : ℕ) × IsInRound ranks v w j
  round_of_descendant v w after inside block =
      let d = w - v in
      let some = digits_some (w - v) (omega (arith, inside, few)) (omega (arith, after)) in
      let whole : suc (digits (w - v) - 1) ≡ digits (w - v) = omega (arith, some) in
      let from = power_below_digits_at_most (w - v) (digits (w - v) - 1) (omega (arith, inside, few)) (omega (arith, some)) in
      let high : w - v < 2 ^ suc (digits (w - v) - 1) = subst (λ (n : ℕ). w - v < 2 ^ n) (sym whole) (below_power_of_digits (w - v) (digits (w - v)) (omega (arith, inside, few)) (omega arith)) in
      let up = pow-suc 2 (digits (w - v) - 1) in (
        digits (w - v) - 1,
        record {
          round = round_with_child_exists v (digits (w - v) - 1) (below (digits (w - v) - 1) from) (omega (arith, from, after, inside));
          from = omega (arith, from, after);
          before = omega (arith, high, up, after);
        },
      )
    where
      below : (j : ℕ) → 2 ^ j ≤ w - v → j < low v
      below j le = ⊎_elim (λ lt. lt) (λ ge. absurd (let more = pow_mono ge in omega (arith, more, le, after, block))) (cases_lt j (low v))

  -- w is in the block of the child of only one round
  pub round_of_descendant_unique : (v w i j : ℕ) → IsInRound ranks v w i → IsInRound ranks v w j → i ≡ j
  round_of_descendant_unique v w i j a b = ⊎_elim (λ lt. absurd (less i j a b lt)) (λ ge. ⊎_elim (λ lt. absurd (less j i b a lt)) (λ le. omega (arith, ge, le)) (cases_lt j i)) (cases_lt i j)
    where
      less : (i j : ℕ) → IsInRound ranks v w i → IsInRound ranks v w j → i < j → ⊥
      less i j a b lt =
          let more : 2 ^ suc i ≤ 2 ^ j = pow_mono lt in
          let up = pow-suc 2 i in
          let before = a.before in
          let from = b.from in
          omega (arith, more, up, before, from)

  -- the block of a child is in the block of its parent
  pub round_in_block : (v w j : ℕ) → IsInRound ranks v w j → w < v + 2 ^ low v
  round_in_block v w j is =
      let round = is.round in
      let most = rounds_low v in
      let more : 2 ^ suc j ≤ 2 ^ low v = pow_mono (omega (arith, round, most)) in
      let up = pow-suc 2 j in
      let before = is.before in
      omega (arith, more, up, before)
