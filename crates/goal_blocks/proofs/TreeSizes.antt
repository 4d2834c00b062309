-- How many virtual ranks the blocks of a binomial tree have together.
use Rattle.std.proofs.Common.{◌∙◌, ⊎_elim, ◌≡◌, ℕ, zero, suc, ◌+◌, ◌-◌, ◌*◌, ◌^◌, ◌<◌, ◌≤◌, ◌&&◌, eqb, nat_lt, nat_le, Bool, true, false, if◌then◌else◌, refl, subst, arith, min}
use Rattle.std.specs.List.{range_with_len, sum_by}
use Rattle.std.proofs.Math.Nat.{le_trans, mul-le-mul_right}
use Rattle.std.proofs.lemmas.Bool.{lt-ltb, le-leb, cases_lt}
use Rattle.std.proofs.lemmas.Bool.Decides.{nat_tests}
use Rattle.goal_limits.specs.Limits.{rank_limit}
use Rattle.goal_blocks.specs.Positions.{back, low}
use Rattle.goal_blocks.specs.Weight.{sum_below}
use Rattle.goal_blocks.proofs.Totals.{sum_range_few}
use Rattle.goal_blocks.proofs.Trees.{sum_range, sum_below_le, sum_below_more, sum_below_add, sum_below_one, sum_below_none, lowest_power, lowest_powers_sum, turned}

-- the number of virtual ranks from v on to before v + 2^low v
unfoldable pub block_size : ℕ → ℕ → ℕ
block_size ranks v = min (2 ^ low v) (ranks - v)

-- 1 for those, and 0 for the others
unfoldable pub in_block : ℕ → ℕ → ℕ
in_block v w = if nat_le v w && nat_lt w (v + 2 ^ low v) then 1 else 0

pub is_in_block : (v w : ℕ) → v ≤ w → w < v + 2 ^ low v → in_block v w ≡ 1
unfolding in_block
is_in_block v w from before = rw (le-leb v w from, lt-ltb w (v + 2 ^ low v) before) refl

outside_block : (v w : ℕ) → (w < v) → in_block v w ≡ 0
unfolding in_block
outside_block v w under =
    let t : nat_le v w ≡ false = grind (arith, nat_tests) in
    rw t refl

past_block : (v w : ℕ) → v + 2 ^ low v ≤ w → in_block v w ≡ 0
unfolding in_block
past_block v w over =
    let t : nat_lt w (v + 2 ^ low v) ≡ false = grind (arith, nat_tests) in
    rw t (go (nat_le v w))
  where
    go : (b : Bool) → ◌≡◌ {A = ℕ} (if b && false then 1 else 0) 0
    go true = refl
    go false = refl

-- a bound on how many of the first n virtual ranks are in a block
block_sum : (v n : ℕ) → sum_below n (in_block v) ≤ min (2 ^ low v) (n - v)
unfolding sum_below
block_sum v zero = omega arith
block_sum v (suc n) =
    let rest = block_sum v n in
    ⊎_elim (λ lt. let none = outside_block v n lt in omega (arith, rest, none, lt)) (λ ge. ⊎_elim (λ lt. let one = is_in_block v n ge lt in omega (arith, rest, one, lt, ge)) (λ past. let none = past_block v n past in omega (arith, rest, none, past, ge)) (cases_lt n (v + 2 ^ low v))) (cases_lt n v)

pub sum_below_times : (c : ℕ) (f : ℕ → ℕ) (n : ℕ) → sum_below n (λ k. c * f k) ≡ c * sum_below n f
unfolding sum_below
sum_below_times c f zero = omega arith
sum_below_times c f (suc n) = let rest = sum_below_times c f n in grind (arith, rest)

module _ (ranks : ℕ) (few : ranks ≤ rank_limit) where
  size_above : (w : ℕ) → block_size ranks (1 + w) ≤ lowest_power 32 (1 + w)
  unfolding block_size lowest_power low
  size_above w =
      let e : eqb (1 + w) 0 ≡ false = grind (arith, nat_tests) in
      rw e (omega arith)

  size_root : block_size ranks 0 ≤ 65536
  unfolding block_size
  size_root = omega (arith, few)

  sizes_below : (n : ℕ) → n ≤ rank_limit → sum_below n (block_size ranks) ≤ 589824
  sizes_below zero le =
      let none = sum_below_le (block_size ranks) (λ v. 0) 0 (λ i l. absurd (omega (arith, l))) in
      let zeros = sum_below_none (λ v. 0) 0 (λ i. refl) in
      omega (arith, none, zeros)
  sizes_below (suc m) le =
      let n : suc m ≡ 1 + m = omega arith in
      let parts = sum_below_add (block_size ranks) 1 m in
      let first = sum_below_one (block_size ranks) in
      let root = size_root in
      let rest = sum_below_le (λ w. block_size ranks (1 + w)) (λ w. lowest_power 32 (1 + w)) m (λ w l. size_above w) in
      let whole = sum_below_add (lowest_power 32) 1 m in
      let grown = sum_below_more (lowest_power 32) (1 + m) (65536 - (1 + m)) in
      let size : 1 + m + (65536 - (1 + m)) ≡ 65536 = omega (arith, le) in
      let all : 2 * sum_below 65536 (lowest_power 32) ≤ 16 * 65536 = lowest_powers_sum 16 32 (omega arith) in
      let grown' : sum_below (1 + m) (lowest_power 32) ≤ sum_below 65536 (lowest_power 32) = rw size at grown in
      rw n (omega (arith, parts, first, root, rest, whole, grown', all))

  module _ (root : ℕ) (rooted : root < ranks) where
    -- the sizes of the blocks of all ranks
    pub sizes_sum : sum_below ranks (λ r. block_size ranks (back ranks r root)) ≤ 589824
    sizes_sum = le_trans (turned ranks few root rooted (block_size ranks)) (sizes_below ranks few)

    -- a sum over the slots of ranks is one over their virtual ranks

    at_slot : (ℕ → ℕ) → ℕ → ℕ
    at_slot f k = if nat_lt k ranks then f (back ranks k root) else 0

    at_low : (f : ℕ → ℕ) (k : ℕ) → k < ranks → at_slot f k ≡ f (back ranks k root)
    unfolding at_slot
    at_low f k l = rw (lt-ltb k ranks l) refl

    at_high : (f : ℕ → ℕ) (i : ℕ) → at_slot f (ranks + i) ≡ 0
    unfolding at_slot
    at_high f i =
        let t : nat_lt (ranks + i) ranks ≡ false = grind (arith, nat_tests) in
        rw t refl

    slots_sum : (f : ℕ → ℕ) → sum_below (2 ^ 32) (at_slot f) ≤ sum_below ranks f
    slots_sum f =
        let whole : ranks + (2 ^ 32 - ranks) ≡ 2 ^ 32 = omega (arith, few) in
        let parts = sum_below_add (at_slot f) ranks (2 ^ 32 - ranks) in
        let low_slots = sum_below_le (at_slot f) (λ r. f (back ranks r root)) ranks (λ k l. let e = at_low f k l in omega (arith, e)) in
        let high_slots = sum_below_none (λ i. at_slot f (ranks + i)) (2 ^ 32 - ranks) (at_high f) in
        let over_ranks = turned ranks few root rooted f in
        subst (λ (n : ℕ). sum_below n (at_slot f) ≤ sum_below ranks f) whole (omega (arith, parts, low_slots, high_slots, over_ranks))

    -- 1 for each slot of the block of a rank
    pub block_cap : ℕ → ℕ → ℕ
    block_cap r k = at_slot (in_block (back ranks r root)) k

    pub cap_of_block : (r k : ℕ) → k < ranks → back ranks r root ≤ back ranks k root → back ranks k root < back ranks r root + 2 ^ low (back ranks r root) → block_cap r k ≡ 1
    unfolding block_cap
    cap_of_block r k slot from before =
        at_low (in_block (back ranks r root)) k slot ∙ is_in_block (back ranks r root) (back ranks k root) from before

    pub blocks_held : sum_below ranks (λ r. sum_below (2 ^ 32) (block_cap r)) ≤ 589824
    unfolding block_size block_cap
    blocks_held =
        le_trans (sum_below_le (λ r. sum_below (2 ^ 32) (block_cap r)) (λ r. block_size ranks (back ranks r root)) ranks (λ r l. le_trans (slots_sum (in_block (back ranks r root))) (block_sum (back ranks r root) ranks))) sizes_sum

    -- as much for each operation as the block of its rank has
    abbrev pub block_load : ℕ → ℕ → ℕ
    block_load r i = block_size ranks (back ranks r root)

    -- where each rank has at most 17 operations that each move at most its block
    pub blocks_moved : (count : ℕ → ℕ) → ((r : ℕ) → count r ≤ 17) → sum_by (λ r. sum_by (block_load r) (range_with_len 0 (count r))) (range_with_len 0 ranks) ≤ 10027008
    blocks_moved count most =
        let each = sum_below_le (λ r. sum_by (block_load r) (range_with_len 0 (count r))) (λ r. 17 * block_load r 0) ranks (λ r l. le_trans (sum_range_few (block_load r) (count r) (block_load r 0) (λ i m. omega arith)) (mul-le-mul_right (block_load r 0) (most r))) in
        let times = sum_below_times 17 (λ r. block_load r 0) ranks in
        let sizes = sizes_sum in
        rw (sum_range (λ r. sum_by (block_load r) (range_with_len 0 (count r))) ranks) (omega (arith, each, times, sizes))
