-- How many children the ranks of a binomial tree have together.
use Rattle.std.proofs.Common.{◌≡◌, ℕ, zero, suc, ◌+◌, ◌-◌, ◌*◌, ◌/◌, ◌%◌, ◌^◌, ◌<◌, ◌≤◌, eqb, ltb, Bool, true, false, refl, sym, ap, ◌∙◌, arith, zero-add, add-zero, add-one, min}
use Rattle.std.specs.Prelude.{if◌then◌else◌}
use Rattle.std.specs.List.{range_with_len, sum_by}
use Rattle.std.specs.Int.Count.{count_trailing_zeros}
use Rattle.std.proofs.Math.Nat.{pow-suc}
use Rattle.std.proofs.lemmas.Bool.Decides.{nat_tests}
use Rattle.std.proofs.lemmas.List.FromFn.{sum_by-map-range_with_len_more}
use Rattle.std.proofs.lemmas.Nat.{pow_pos}
use Rattle.goal_limits.specs.Limits.{rank_limit}
use Rattle.goal_blocks.specs.Positions.{back, digits, low, rounds}
use Rattle.goal_blocks.specs.Weight.{sum_below}
use Rattle.goal_blocks.proofs.Fitting.{sum_by-map}
use Rattle.goal_blocks.proofs.RingAndTree.{power_below_digits_at_most, digits_few}

range_more : (f : ℕ → ℕ) (n : ℕ) → sum_by f (range_with_len 0 (n + 1)) ≡ sum_by f (range_with_len 0 n) + f n
range_more f n =
    sym (sum_by-map (λ x. x) f (range_with_len 0 (n + 1)))
    ∙ sum_by-map-range_with_len_more (λ x. x) f 0 n n (zero-add n)
    ∙ ap (λ s. s + f n) (sum_by-map (λ x. x) f (range_with_len 0 n))

pub sum_range : (f : ℕ → ℕ) (n : ℕ) → sum_by f (range_with_len 0 n) ≡ sum_below n f
unfolding sum_below
sum_range f zero = refl
sum_range f (suc n) = ap (λ m. sum_by f (range_with_len 0 m)) (sym (add-one n)) ∙ range_more f n ∙ ap (λ s. s + f n) (sum_range f n)

pub sum_below_le : (f g : ℕ → ℕ) (n : ℕ) → ((i : ℕ) → i < n → f i ≤ g i) → sum_below n f ≤ sum_below n g
unfolding sum_below
sum_below_le f g zero h = omega arith
sum_below_le f g (suc n) h = omega (arith, sum_below_le f g n (λ i l. h i (omega arith)), h n (omega arith))

pub sum_below_more : (f : ℕ → ℕ) (n k : ℕ) → sum_below n f ≤ sum_below (n + k) f
unfolding sum_below
sum_below_more f n zero = rw (add-zero n) (omega arith)
sum_below_more f n (suc k) =
    let e : n + suc k ≡ suc (n + k) = omega arith in
    let le = sum_below_more f n k in
    rw e (omega (arith, le))

pub sum_below_add : (f : ℕ → ℕ) (a b : ℕ) → sum_below (a + b) f ≡ sum_below a f + sum_below b (λ i. f (a + i))
unfolding sum_below
sum_below_add f a zero = rw (add-zero a) (omega arith)
sum_below_add f a (suc b) =
    let e : a + suc b ≡ suc (a + b) = omega arith in
    let more = sum_below_add f a b in
    rw e (omega (arith, more))

-- the sum of 2n numbers, in pairs
sum_below_pairs : (f : ℕ → ℕ) (n : ℕ) → sum_below (n + n) f ≡ sum_below n (λ u. f (u + u) + f (u + u + 1))
unfolding sum_below
sum_below_pairs f zero = refl
sum_below_pairs f (suc n) =
    let e : suc n + suc n ≡ suc (suc (n + n)) = omega arith in
    let odd : f (suc (n + n)) ≡ f (n + n + 1) = ap f (sym (add-one (n + n))) in
    let more = sum_below_pairs f n in
    rw e (omega (arith, more, odd))

sum_below_suc : (f : ℕ → ℕ) (n : ℕ) → sum_below n (λ u. suc (f u)) ≡ sum_below n f + n
unfolding sum_below
sum_below_suc f zero = refl
sum_below_suc f (suc n) = let more = sum_below_suc f n in omega (arith, more)

sum_below_twice : (f : ℕ → ℕ) (n : ℕ) → sum_below n (λ u. 2 * f u + 1) ≡ 2 * sum_below n f + n
unfolding sum_below
sum_below_twice f zero = refl
sum_below_twice f (suc n) = let more = sum_below_twice f n in omega (arith, more)

-- how often 2 divides v, at most k times, and 0 for v = 0
halvings : ℕ → ℕ → ℕ
halvings k v = if eqb v 0 then 0 else count_trailing_zeros k v

halvings_odd : (k u : ℕ) → halvings (suc k) (u + u + 1) ≡ 0
unfolding halvings count_trailing_zeros
halvings_odd k u =
    let odd : (u + u + 1) % 2 ≡ 1 = omega arith in
    let some : eqb (u + u + 1) 0 ≡ false = grind (arith, nat_tests) in
    rw (some, odd) refl

halvings_even : (k u : ℕ) → halvings (suc k) (u + u) ≤ suc (halvings k u)
unfolding halvings count_trailing_zeros
halvings_even k zero = omega arith
halvings_even k (suc u) =
    let even : (suc u + suc u) % 2 ≡ 0 = omega arith in
    let half : (suc u + suc u) / 2 ≡ suc u = omega arith in
    let some : eqb (suc u + suc u) 0 ≡ false = grind (arith, nat_tests) in
    let some' : eqb (suc u) 0 ≡ false = grind (arith, nat_tests) in
    rw (some, some', even, half) (omega arith)

halvings_none : (v : ℕ) → halvings 0 v ≡ 0
unfolding halvings count_trailing_zeros
halvings_none v = go (eqb v 0)
  where
    go : (b : Bool) → ◌≡◌ {A = ℕ} (if b then 0 else 0) 0
    go true = refl
    go false = refl

halvings_zero : (k : ℕ) → halvings k 0 ≡ 0
unfolding halvings
halvings_zero k = refl

pub sum_below_none : (f : ℕ → ℕ) (n : ℕ) → ((i : ℕ) → f i ≡ 0) → sum_below n f ≡ 0
unfolding sum_below
sum_below_none f zero h = refl
sum_below_none f (suc n) h = omega (arith, sum_below_none f n h, h n)

pub sum_below_one : (f : ℕ → ℕ) → sum_below 1 f ≡ f 0
unfolding sum_below
sum_below_one f = zero-add (f 0)

-- the numbers below 2^j can be halved at most 2^j times together
halvings_sum : (j k : ℕ) → sum_below (2 ^ j) (halvings k) ≤ 2 ^ j
halvings_sum zero k = few
  where
    few : sum_below 1 (halvings k) ≤ 1
    few = rw (sum_below_one (halvings k), halvings_zero k) (omega arith)
halvings_sum (suc j) zero = rw (sum_below_none (halvings 0) (2 ^ suc j) halvings_none) (omega arith)
halvings_sum (suc j) (suc k) =
    let e : 2 ^ suc j ≡ 2 ^ j + 2 ^ j = omega (arith, pow-suc 2 j) in
    let rest = halvings_sum j k in
    let le = sum_below_le (λ u. halvings (suc k) (u + u) + halvings (suc k) (u + u + 1)) (λ u. suc (halvings k u)) (2 ^ j) (λ u l. omega (arith, halvings_even k u, halvings_odd k u)) in
    rw (e, sum_below_pairs (halvings (suc k)) (2 ^ j)) (omega (arith, rest, le, sum_below_suc (halvings k) (2 ^ j)))

-- the power of two of the lowest binary digit 1 of v among its first k digits, and 0 for v = 0
unfoldable pub lowest_power : ℕ → ℕ → ℕ
lowest_power k v = if eqb v 0 then 0 else 2 ^ count_trailing_zeros k v

lowest_power_odd : (k u : ℕ) → lowest_power (suc k) (u + u + 1) ≡ 1
unfolding lowest_power count_trailing_zeros
lowest_power_odd k u =
    let odd : (u + u + 1) % 2 ≡ 1 = omega arith in
    let some : eqb (u + u + 1) 0 ≡ false = grind (arith, nat_tests) in
    rw (some, odd) refl

lowest_power_even : (k u : ℕ) → lowest_power (suc k) (u + u) ≤ 2 * lowest_power k u
unfolding lowest_power count_trailing_zeros
lowest_power_even k zero = omega arith
lowest_power_even k (suc u) =
    let even : (suc u + suc u) % 2 ≡ 0 = omega arith in
    let half : (suc u + suc u) / 2 ≡ suc u = omega arith in
    let some : eqb (suc u + suc u) 0 ≡ false = grind (arith, nat_tests) in
    let some' : eqb (suc u) 0 ≡ false = grind (arith, nat_tests) in
    let up = pow-suc 2 (count_trailing_zeros k (suc u)) in
    rw (some, some', even, half) (omega (arith, up))

lowest_power_zero : (k : ℕ) → lowest_power k 0 ≡ 0
unfolding lowest_power
lowest_power_zero k = refl

-- the lowest powers of the numbers below 2^j add up to at most half of j * 2^j
pub lowest_powers_sum : (j k : ℕ) → j ≤ k → 2 * sum_below (2 ^ j) (lowest_power k) ≤ j * 2 ^ j
lowest_powers_sum zero k le = few
  where
    few : 2 * sum_below 1 (lowest_power k) ≤ 0 * 1
    few = rw (sum_below_one (lowest_power k), lowest_power_zero k) (omega arith)
lowest_powers_sum (suc j) zero le = absurd (omega (arith, le))
lowest_powers_sum (suc j) (suc k) le =
    let e : 2 ^ suc j ≡ 2 ^ j + 2 ^ j = omega (arith, pow-suc 2 j) in
    let rest = lowest_powers_sum j k (omega (arith, le)) in
    let pairs = sum_below_le (λ u. lowest_power (suc k) (u + u) + lowest_power (suc k) (u + u + 1)) (λ u. 2 * lowest_power k u + 1) (2 ^ j) (λ u l. omega (arith, lowest_power_even k u, lowest_power_odd k u)) in
    let twice = sum_below_twice (lowest_power k) (2 ^ j) in
    let product : suc j * (2 ^ j + 2 ^ j) ≡ 2 * (j * 2 ^ j) + 2 ^ j + 2 ^ j = grind arith in
    rw (e, sum_below_pairs (lowest_power (suc k)) (2 ^ j), product) (omega (arith, rest, pairs, twice))

module _ (ranks : ℕ) (few : ranks ≤ rank_limit) where
  pub rounds_zero : rounds ranks 0 ≡ digits (ranks - 1)
  unfolding rounds
  rounds_zero = refl

  pub rounds_above : (v : ℕ) → 0 < v → rounds ranks v ≡ min (low v) (digits (ranks - 1 - v))
  unfolding rounds
  rounds_above v some =
      let e : eqb v 0 ≡ false = grind (arith, nat_tests) in
      rw e refl

  pub rounds_few : (v : ℕ) → rounds ranks v ≤ 16
  rounds_few zero = rw rounds_zero (digits_few (ranks - 1) 16 (omega arith) (omega arith))
  rounds_few (suc w) =
      let above = digits_few (ranks - 1 - suc w) 16 (omega arith) (omega arith) in
      rw (rounds_above (suc w) (omega arith)) (omega arith)

  -- the child of a round is a virtual rank
  pub child_below : (v j : ℕ) → v < ranks → j < rounds ranks v → v + 2 ^ j < ranks
  child_below zero j inside lt =
      let l : j < digits (ranks - 1) = rw rounds_zero at lt in
      omega (arith, power_below_digits_at_most (ranks - 1) j (omega arith) l)
  child_below (suc w) j inside lt =
      let l : j < min (low (suc w)) (digits (ranks - 1 - suc w)) = rw (rounds_above (suc w) (omega arith)) at lt in
      omega (arith, power_below_digits_at_most (ranks - 1 - suc w) j (omega arith) (omega arith), pow_pos j)

  rounds_halvings : (w : ℕ) → rounds ranks (1 + w) ≤ halvings 32 (1 + w)
  unfolding halvings low
  rounds_halvings w =
      let e : eqb (1 + w) 0 ≡ false = grind (arith, nat_tests) in
      rw (rounds_above (1 + w) (omega arith), e) (omega arith)

  -- the children of all virtual ranks
  rounds_sum : (n : ℕ) → n ≤ rank_limit → sum_below n (rounds ranks) ≤ 65552
  rounds_sum zero le = omega (arith, sum_below_le (rounds ranks) (λ v. 0) 0 (λ i l. absurd (omega arith)), sum_below_none (λ v. 0) 0 (λ i. refl))
  rounds_sum (suc m) le =
      let n : suc m ≡ 1 + m = omega arith in
      let parts = sum_below_add (rounds ranks) 1 m in
      let first = sum_below_one (rounds ranks) in
      let root = rounds_few 0 in
      let rest = sum_below_le (λ w. rounds ranks (1 + w)) (λ w. halvings 32 (1 + w)) m (λ w l. rounds_halvings w) in
      let whole = sum_below_add (halvings 32) 1 m in
      let grown = sum_below_more (halvings 32) (1 + m) (65536 - (1 + m)) in
      let size : 1 + m + (65536 - (1 + m)) ≡ 65536 = omega arith in
      let all : sum_below 65536 (halvings 32) ≤ 65536 = halvings_sum 16 32 in
      let grown' : sum_below (1 + m) (halvings 32) ≤ sum_below 65536 (halvings 32) = rw size at grown in
      rw n (omega (arith, parts, first, root, rest, whole, grown', all))

  -- a sum over ranks is one over virtual ranks
  module _ (root : ℕ) (rooted : root < ranks) where
    pub turned : (f : ℕ → ℕ) → sum_below ranks (λ r. f (back ranks r root)) ≤ sum_below ranks f
    unfolding back
    turned f =
        let a : ranks ≡ root + (ranks - root) = omega arith in
        let b : ranks ≡ ranks - root + root = omega arith in
        let left = sum_below_add (λ r. f (if ltb r root then r + ranks - root else r - root)) root (ranks - root) in
        let right = sum_below_add f (ranks - root) root in
        let low = sum_below_le (λ r. f (if ltb r root then r + ranks - root else r - root)) (λ i. f (ranks - root + i)) root
        (λ i l.
        let t : ltb i root ≡ true = grind (arith, nat_tests) in
        let e : i + ranks - root ≡ ranks - root + i = omega arith in
        rw (t, e) (omega arith)) in
        let high = sum_below_le (λ i. f (if ltb (root + i) root then root + i + ranks - root else root + i - root)) f (ranks - root)
        (λ i l.
        let t : ltb (root + i) root ≡ false = grind (arith, nat_tests) in
        let e : root + i - root ≡ i = omega arith in
        rw (t, e) (omega arith)) in
        let a' = ap (λ n. sum_below n (λ r. f (if ltb r root then r + ranks - root else r - root))) a in
        let b' = ap (λ n. sum_below n f) b in
        omega (arith, left, right, low, high, a', b')

    -- ranks that each have two operations for each child, and one more, or fewer
    pub tree_total : (count : ℕ → ℕ) → ((v : ℕ) → count v ≤ 2 * rounds ranks v + 1) → sum_by (λ r. count (back ranks r root)) (range_with_len 0 ranks) ≤ 196640
    tree_total count h =
        let turn = turned count in
        let le = sum_below_le count (λ v. 2 * rounds ranks v + 1) ranks (λ v l. h v) in
        let twice = sum_below_twice (rounds ranks) ranks in
        let all = rounds_sum ranks few in
        rw (sum_range (λ r. count (back ranks r root)) ranks) (omega (arith, turn, le, twice, all))
