-- The formulas, case by case.
use Rattle.std.proofs.lemmas.Nat.{pow_pos}
use Rattle.std.proofs.Common.{◌≡◌, ◌≢◌, ℕ, zero, suc, ◌+◌, ◌-◌, ◌*◌, ◌/◌, ◌%◌, ◌^◌, ◌<◌, ◌≤◌, eqb, true, false, List, [], ◌∷◌, refl, ap, arith}
use Rattle.std.proofs.lemmas.Bool.Decides.{nat_tests}
use Rattle.goal_limits.specs.Limits.{rank_limit}
use Rattle.goal_blocks.specs.Entries.{slot, sending, receiving, summing}
use Rattle.goal_blocks.specs.Positions.{ahead, back, flipped, digits}
use Rattle.goal_blocks.specs.Made.{bcast_in, bcast_count, bcast_send, before_send, allgather_in, alltoall_in, round_in, barrier_in, allreduce_in}
use Rattle.goal_blocks.proofs.ForCallers.{power_below_digits_at_most, digits_few, digits_some}

-- the broadcast

pub bcast_count_root : (ranks v : ℕ) → v ≡ 0 → bcast_count ranks v ≡ digits (ranks - 1 - v)
unfolding bcast_count
bcast_count_root ranks zero h = ap digits (omega arith)
bcast_count_root ranks (suc w) h = absurd (omega arith)

pub bcast_count_other : (ranks v : ℕ) → 0 < v → bcast_count ranks v ≡ 1 + (digits (ranks - 1 - v) - digits v)
unfolding bcast_count
bcast_count_other ranks zero h = absurd (omega arith)
bcast_count_other ranks (suc w) h = omega arith

module _ (ranks root bytes : ℕ) where
  pub bcast_at_root : (v i : ℕ) → v ≡ 0 → bcast_send ranks root bytes v i [] ≡ bcast_in ranks root bytes v i
  unfolding bcast_in
  bcast_at_root zero i h = refl
  bcast_at_root (suc w) i h = absurd (omega arith)

  pub bcast_receives : (v i : ℕ) → 0 < v → i ≡ 0 → receiving bytes (ahead ranks (v - 2 ^ (digits v - 1)) root) (digits v - 1) (slot 0) ≡ bcast_in ranks root bytes v i
  unfolding bcast_in
  bcast_receives zero i h e = absurd (omega arith)
  bcast_receives (suc w) zero h e = refl
  bcast_receives (suc w) (suc i) h e = absurd (omega arith)

  pub bcast_sends : (v i : ℕ) → 0 < v → 0 < i → bcast_send ranks root bytes v (digits v + (i - 1)) (0 ∷ []) ≡ bcast_in ranks root bytes v i
  unfolding bcast_in
  bcast_sends zero i h e = absurd (omega arith)
  bcast_sends (suc w) zero h e = absurd (omega arith)
  bcast_sends (suc w) (suc i) h e =
      let last : digits (suc w) + (suc i - 1) ≡ digits (suc w) + i = omega arith in
      ap (λ (j : ℕ). bcast_send ranks root bytes (suc w) j (0 ∷ [])) last

-- the round of a message is below 16, and its child is a virtual rank
pub record IsRound (ranks v j : ℕ) : Type 0 where
  pub few : j < 16
  pub child : v + 2 ^ j < ranks

pub round_below : (ranks v j : ℕ) → ranks ≤ rank_limit → v < ranks → j < digits (ranks - 1 - v) → IsRound ranks v j
round_below ranks v j few inside lt =
    let low = power_below_digits_at_most (ranks - 1 - v) j (omega arith) lt in
    let digits_few = digits_few (ranks - 1 - v) 16 (omega arith) (omega arith) in
    record { few = omega arith; child = omega arith }

pub root_round : (ranks v i : ℕ) → ranks ≤ rank_limit → v < ranks → v ≡ 0 → i < bcast_count ranks v → IsRound ranks v i
root_round ranks v i few inside h lt = round_below ranks v i few inside (omega (arith, bcast_count_root ranks v h))

pub other_round : (ranks v i : ℕ) → ranks ≤ rank_limit → v < ranks → 0 < v → 0 < i → i < bcast_count ranks v → IsRound ranks v (digits v + (i - 1))
other_round ranks v i few inside h k lt = round_below ranks v (digits v + (i - 1)) few inside (omega (arith, bcast_count_other ranks v h))

-- the round in which a virtual rank receives is below 16, and its parent exists
pub record IsOwnRound (v : ℕ) : Type 0 where
  pub some : 0 < digits v
  pub few : digits v ≤ 16
  pub parent : 2 ^ (digits v - 1) ≤ v

pub own_round : (v : ℕ) → v < 65536 → 0 < v → IsOwnRound v
own_round v few some =
    let digit = digits_some v (omega arith) some in
    record { some = digit; few = digits_few v 16 (omega arith) few; parent = power_below_digits_at_most v (digits v - 1) (omega arith) (omega arith) }

-- the barrier and the allreduce

-- a round is below 16, and 2 to it below the ranks
pub round_of_third : (ranks i : ℕ) → ranks ≤ rank_limit → i < 3 * digits (ranks - 1) → (i / 3 < 16) × (2 ^ (i / 3) < ranks)
round_of_third ranks i few lt =
    let digits_few = digits_few (ranks - 1) 16 (omega arith) (omega arith) in
    let low = power_below_digits_at_most (ranks - 1) (i / 3) (omega arith) (omega arith) in
    (omega arith, omega (arith, pow_pos (i / 3)))

pub barrier_by_rounds : (ranks bytes r i : ℕ) → round_in bytes (ahead ranks r (2 ^ (i / 3))) (back ranks r (2 ^ (i / 3))) (i / 3) (i % 3) ≡ barrier_in ranks bytes r i
unfolding barrier_in
barrier_by_rounds ranks bytes r i = refl

pub allreduce_by_rounds : (bytes r i : ℕ) → round_in bytes (flipped r (i / 3)) (flipped r (i / 3)) (i / 3) (i % 3) ≡ allreduce_in bytes r i
unfolding allreduce_in
allreduce_by_rounds bytes r i = refl

pub flipped_sets_digit : (r k d : ℕ) → d ≡ 2 ^ k → r / d % 2 ≡ 0 → r + d ≡ flipped r k
unfolding flipped
flipped_sets_digit r k d e even =
    let up : eqb (r / 2 ^ k % 2) 0 ≡ true = grind (arith, nat_tests) in
    rw (up, e) refl

pub flipped_clears_digit : (r k d : ℕ) → d ≡ 2 ^ k → r / d % 2 ≢ 0 → r - d ≡ flipped r k
unfolding flipped
flipped_clears_digit r k d e odd =
    let down : eqb (r / 2 ^ k % 2) 0 ≡ false = grind (arith, nat_tests) in
    rw (down, e) refl

-- the allgather

module _ (ranks bytes r : ℕ) where
  pub ring_sends : (i : ℕ) (needs : List ℕ) → i % 2 ≡ 0 → (i ≡ 0 → needs ≡ []) → (0 < i → needs ≡ (i - 1) ∷ []) → sending bytes (ahead ranks r 1) (i / 2) needs (slot (back ranks r (i / 2))) ≡ allgather_in ranks bytes r i
  unfolding allgather_in
  ring_sends i needs even none some = rw even (ap (λ (ns : List ℕ). sending bytes (ahead ranks r 1) (i / 2) ns (slot (back ranks r (i / 2)))) (go (i / 2) refl))
    where
      go : (s : ℕ) → i / 2 ≡ s → needs ≡ before_send (i / 2)
      go zero e = rw e (none (omega arith))
      go (suc s) e =
          let last : i - 1 ≡ s + s + 1 = omega arith in
          rw (e, ← last) (some (omega arith))

  pub ring_receives : (i : ℕ) → i % 2 ≢ 0 → receiving bytes (back ranks r 1) (i / 2) (slot (back ranks r (i / 2 + 1))) ≡ allgather_in ranks bytes r i
  unfolding allgather_in
  ring_receives i odd =
      let one : i % 2 ≡ 1 = omega arith in
      rw one refl

  -- the alltoall

  pub shift_own : (i : ℕ) → i ≡ 0 → summing [] r (ranks + r) ≡ alltoall_in ranks bytes r i
  unfolding alltoall_in
  shift_own zero e = refl
  shift_own (suc i) e = absurd (omega arith)

  pub shift_sends : (i : ℕ) → i % 2 ≡ 1 → sending bytes (ahead ranks r ((i - 1) / 2 + 1)) ((i - 1) / 2 + 1) [] (slot (ahead ranks r ((i - 1) / 2 + 1))) ≡ alltoall_in ranks bytes r i
  unfolding alltoall_in
  shift_sends zero odd = absurd (omega arith)
  shift_sends (suc i) odd =
      let even : i % 2 ≡ 0 = omega arith in
      let same : (suc i - 1) / 2 + 1 ≡ i / 2 + 1 = omega arith in
      rw (even, same) refl

  pub shift_receives : (i : ℕ) → 0 < i → i % 2 ≢ 1 → receiving bytes (back ranks r ((i - 1) / 2 + 1)) ((i - 1) / 2 + 1) (slot (ranks + back ranks r ((i - 1) / 2 + 1))) ≡ alltoall_in ranks bytes r i
  unfolding alltoall_in
  shift_receives zero some even = absurd (omega arith)
  shift_receives (suc i) some even =
      let odd : i % 2 ≡ 1 = omega arith in
      let same : (suc i - 1) / 2 + 1 ≡ i / 2 + 1 = omega arith in
      rw (odd, same) refl
