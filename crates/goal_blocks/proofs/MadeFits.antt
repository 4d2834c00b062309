-- The entries of the broadcast, barrier, allgather, allreduce, alltoall, reduce_scatter and scan fit.
use Rattle.std.proofs.Common.{◌≡◌, ℕ, zero, suc, ◌+◌, ◌-◌, ◌*◌, ◌/◌, ◌%◌, ◌^◌, ◌<◌, ◌≤◌, ltb, Bool, true, false, [], ◌∷◌, length, All, subst, arith}
use Rattle.std.specs.Prelude.{if◌then◌else◌}
use Rattle.std.specs.List.{range_with_len, sum_by}
use Rattle.std.proofs.Math.Nat.{mul-le-mul_right, le_trans}
use Rattle.std.proofs.lemmas.Bool.Decides.{nat_tests}
use Rattle.std.proofs.lemmas.List.Elements.{All-nil}
use Rattle.std.proofs.lemmas.Nat.{pow_pos}
use Rattle.goal_limits.specs.declared.limits.TheConstants.{MAX_BYTES}
use Rattle.goal_blocks.specs.Entries.{slot}
use Rattle.goal_blocks.specs.Fitting.{AreFitting}
use Rattle.goal_blocks.specs.Positions.{ahead, back, flipped, digits}
use Rattle.goal_blocks.specs.Made.{bcast_in, bcast_count, before_round, round_in, barrier_in, allreduce_in, before_send, ring_in, allgather_in, shift_in, alltoall_in}
use Rattle.goal_blocks.specs.MadeRooted.{part_in, reduce_scatter_in, scan_in, scan_count}
use Rattle.std.specs.Int.{IsPowerOfTwo}
use Rattle.goal_limits.specs.Limits.{rank_limit}
use Rattle.goal_blocks.proofs.RingAndTree.{ahead_below, back_below, flipped_below, power_below_digits_at_most, digits_few, digits_some, upward_some, upward_few}
use Rattle.goal_blocks.proofs.Totals.{sum_range_few}
use Rattle.goal_blocks.proofs.Slim.{IsSlim, All_one, All_two, slot_in_order, sending_slim, receiving_slim, summing_slim, slim_fitting}

-- at most `most` ranks with at most c operations each have at most most * c operations
total_of_bounded_counts : (ranks most c : ℕ) (count : ℕ → ℕ) → ranks ≤ most → ((r : ℕ) → r < ranks → count r ≤ c) → sum_by count (range_with_len 0 ranks) ≤ most * c
total_of_bounded_counts ranks most c count few h = le_trans (sum_range_few count ranks c h) (mul-le-mul_right c few)

-- rounds and steps of three

lower_before_round : (k : ℕ) → All (λ (n : ℕ). n < 3 * k) (before_round k)
lower_before_round zero = All-nil (λ (n : ℕ). n < 3 * 0)
lower_before_round (suc k) = All_one (λ (n : ℕ). n < 3 * suc k) (3 * k + 2) (omega arith)

few_before_round : (k : ℕ) → length (before_round k) ≤ 1
few_before_round zero = omega arith
few_before_round (suc k) = omega arith

module _ (ranks bytes : ℕ) (small : bytes ≤ MAX_BYTES) where
  round_slim : (to from k b i : ℕ) → to < ranks → from < ranks → i ≡ 3 * k + b → IsSlim ranks i 2 1 (round_in bytes to from k b)
  round_slim to from k zero i a b e =
      let few = few_before_round k in
      sending_slim ranks i bytes small 2 1 to k (before_round k) (slot 0) a
      (subst (λ (j : ℕ). All (λ (n : ℕ). n < j) (before_round k)) (omega arith) (lower_before_round k)) (omega arith) (slot_in_order 0) (omega arith)
  round_slim to from k (suc zero) i a b e =
      receiving_slim ranks i bytes small 2 1 from k (slot (k + 1)) b (slot_in_order (k + 1)) (omega arith)
  round_slim to from k (suc (suc d)) i a b e =
      summing_slim ranks i 2 1 ((3 * k) ∷ (3 * k + 1) ∷ []) (k + 1) 0 (All_two (λ (n : ℕ). n < i) (3 * k) (3 * k + 1) (omega arith) (omega arith)) (omega arith) (omega arith)

  part_slim : (r s b i : ℕ) → r < ranks → i ≡ 3 * s + b → IsSlim ranks i 2 1 (part_in ranks bytes r s b)
  part_slim r s zero i inside e =
      let few = few_before_round s in
      sending_slim ranks i bytes small 2 1 (ahead ranks r 1) s (before_round s) (slot (back ranks r (s + 1))) (ahead_below ranks r 1 inside (omega arith))
      (subst (λ (j : ℕ). All (λ (n : ℕ). n < j) (before_round s)) (omega arith) (lower_before_round s)) (omega arith) (slot_in_order (back ranks r (s + 1))) (omega arith)
  part_slim r s (suc zero) i inside e =
      receiving_slim ranks i bytes small 2 1 (back ranks r 1) s (slot (ranks + back ranks r (s + 2))) (back_below ranks r 1 inside) (slot_in_order (ranks + back ranks r (s + 2))) (omega arith)
  part_slim r s (suc (suc d)) i inside e =
      summing_slim ranks i 2 1 ((3 * s + 1) ∷ []) (ranks + back ranks r (s + 2)) (back ranks r (s + 2)) (All_one (λ (n : ℕ). n < i) (3 * s + 1) (omega arith)) (omega arith) (omega arith)

  ring_slim : (r s b i : ℕ) → r < ranks → i ≡ 2 * s + b → IsSlim ranks i 1 1 (ring_in ranks bytes r s b)
  ring_slim r s zero i inside e =
      sending_slim ranks i bytes small 1 1 (ahead ranks r 1) s (before_send s) (slot (back ranks r s)) (ahead_below ranks r 1 inside (omega arith))
      (lower s e) (few s) (slot_in_order (back ranks r s)) (omega arith)
    where
      lower : (s : ℕ) → i ≡ 2 * s + 0 → All (λ (n : ℕ). n < i) (before_send s)
      lower zero e = All-nil (λ (n : ℕ). n < i)
      lower (suc s) e = All_one (λ (n : ℕ). n < i) (s + s + 1) (omega arith)

      few : (s : ℕ) → length (before_send s) ≤ 1
      few zero = omega arith
      few (suc s) = omega arith
  ring_slim r s (suc b) i inside e =
      receiving_slim ranks i bytes small 1 1 (back ranks r 1) s (slot (back ranks r (s + 1))) (back_below ranks r 1 inside) (slot_in_order (back ranks r (s + 1))) (omega arith)

  shift_slim : (r s b i : ℕ) → r < ranks → s ≤ ranks → IsSlim ranks i 0 1 (shift_in ranks bytes r s b)
  shift_slim r s zero i inside few =
      sending_slim ranks i bytes small 0 1 (ahead ranks r s) s [] (slot (ahead ranks r s)) (ahead_below ranks r s inside few)
      (All-nil (λ (n : ℕ). n < i)) (omega arith) (slot_in_order (ahead ranks r s)) (omega arith)
  shift_slim r s (suc b) i inside few =
      receiving_slim ranks i bytes small 0 1 (back ranks r s) s (slot (ranks + back ranks r s)) (back_below ranks r s inside) (slot_in_order (ranks + back ranks r s)) (omega arith)

  -- the barrier
  pub barrier_fits : 0 < ranks → ranks ≤ 16384 → AreFitting ranks (λ r. 3 * digits (ranks - 1)) (λ r i. barrier_in ranks bytes r i)
  unfolding barrier_in
  barrier_fits some few =
      let rounds_few = digits_few (ranks - 1) 14 (omega arith) (omega arith) in
      slim_fitting ranks (λ r. 3 * digits (ranks - 1)) (λ r i. barrier_in ranks bytes r i) 2 1 (16384 * 42) some (omega arith)
      (λ r i in_rank inside.
      let low = power_below_digits_at_most (ranks - 1) (i / 3) (omega arith) (omega arith) in
      round_slim (ahead ranks r (2 ^ (i / 3))) (back ranks r (2 ^ (i / 3))) (i / 3) (i % 3) i (ahead_below ranks r (2 ^ (i / 3)) in_rank (omega arith)) (back_below ranks r (2 ^ (i / 3)) in_rank) (omega arith))
      (total_of_bounded_counts ranks 16384 42 (λ r. 3 * digits (ranks - 1)) few (λ r in_rank. omega arith)) (omega arith) (omega arith) (omega arith)

  -- the allreduce
  pub allreduce_fits : ranks ≤ 16384 → IsPowerOfTwo ranks → AreFitting ranks (λ r. 3 * digits (ranks - 1)) (λ r i. allreduce_in bytes r i)
  unfolding allreduce_in
  allreduce_fits few p =
      let some = pow_pos p.0 in
      let is = p.1 in
      let rounds_few = digits_few (ranks - 1) 14 (omega arith) (omega arith) in
      let rounds_are = digits_few (ranks - 1) p.0 (omega arith) (omega arith) in
      slim_fitting ranks (λ r. 3 * digits (ranks - 1)) (λ r i. allreduce_in bytes r i) 2 1 (16384 * 42) (omega arith) (omega arith)
      (λ r i in_rank inside.
      let other = flipped_below p.0 r (i / 3) (omega arith) (omega arith) in
      round_slim (flipped r (i / 3)) (flipped r (i / 3)) (i / 3) (i % 3) i (omega arith) (omega arith) (omega arith))
      (total_of_bounded_counts ranks 16384 42 (λ r. 3 * digits (ranks - 1)) few (λ r in_rank. omega arith)) (omega arith) (omega arith) (omega arith)

  -- the allgather
  pub allgather_fits : 0 < ranks → ranks ≤ 512 → AreFitting ranks (λ r. 2 * (ranks - 1)) (λ r i. allgather_in ranks bytes r i)
  unfolding allgather_in
  allgather_fits some few =
      slim_fitting ranks (λ r. 2 * (ranks - 1)) (λ r i. allgather_in ranks bytes r i) 1 1 (512 * 1022) some (omega arith)
      (λ r i in_rank inside. ring_slim r (i / 2) (i % 2) i in_rank (omega arith))
      (total_of_bounded_counts ranks 512 1022 (λ r. 2 * (ranks - 1)) few (λ r in_rank. omega arith)) (omega arith) (omega arith) (omega arith)

  -- the alltoall
  alltoall_slim : (r i : ℕ) → r < ranks → i < 1 + 2 * (ranks - 1) → IsSlim ranks i 0 1 (alltoall_in ranks bytes r i)
  unfolding alltoall_in
  alltoall_slim r zero in_rank inside = summing_slim ranks 0 0 1 [] r (ranks + r) (All-nil (λ (n : ℕ). n < 0)) (omega arith) (omega arith)
  alltoall_slim r (suc i) in_rank inside = shift_slim r (i / 2 + 1) (i % 2) (suc i) in_rank (omega arith)

  pub alltoall_fits : 0 < ranks → ranks ≤ 512 → AreFitting ranks (λ r. 1 + 2 * (ranks - 1)) (λ r i. alltoall_in ranks bytes r i)
  alltoall_fits some few =
      slim_fitting ranks (λ r. 1 + 2 * (ranks - 1)) (λ r i. alltoall_in ranks bytes r i) 0 1 (512 * 1023) some (omega arith)
      alltoall_slim (total_of_bounded_counts ranks 512 1023 (λ r. 1 + 2 * (ranks - 1)) few (λ r in_rank. omega arith)) (omega arith) (omega arith) (omega arith)

  -- the reduce_scatter
  pub reduce_scatter_fits : 0 < ranks → ranks ≤ 128 → AreFitting ranks (λ r. 3 * (ranks - 1)) (λ r i. reduce_scatter_in ranks bytes r i)
  unfolding reduce_scatter_in
  reduce_scatter_fits some few =
      slim_fitting ranks (λ r. 3 * (ranks - 1)) (λ r i. reduce_scatter_in ranks bytes r i) 2 1 (128 * 381) some (omega arith)
      (λ r i in_rank inside. part_slim r (i / 3) (i % 3) i in_rank (omega arith))
      (total_of_bounded_counts ranks 128 381 (λ r. 3 * (ranks - 1)) few (λ r in_rank. omega arith)) (omega arith) (omega arith) (omega arith)

  -- the scan
  send_exists_only_below_ranks : (n b : ℕ) → b < (if ltb n ranks then 1 else 0) → n < ranks
  send_exists_only_below_ranks n b h = grind (arith, nat_tests)

  indicator_at_most_one : (b : Bool) → (if b then 1 else 0) ≤ 1
  indicator_at_most_one true = omega arith
  indicator_at_most_one false = omega arith

  scan_slim : (r i : ℕ) → r < ranks → i < scan_count ranks r → IsSlim ranks i 1 1 (scan_in bytes r i)
  unfolding scan_in scan_count
  scan_slim zero i in_rank inside =
      let two = send_exists_only_below_ranks 1 i (omega arith) in
      sending_slim ranks i bytes small 1 1 1 0 [] (slot 0) two (All-nil (λ (n : ℕ). n < i)) (omega arith) (slot_in_order 0) (omega arith)
  scan_slim (suc w) zero in_rank inside =
      receiving_slim ranks 0 bytes small 1 1 w 0 (slot 1) (omega arith) (slot_in_order 1) (omega arith)
  scan_slim (suc w) (suc zero) in_rank inside =
      summing_slim ranks 1 1 1 (0 ∷ []) 1 0 (All_one (λ (n : ℕ). n < 1) 0 (omega arith)) (omega arith) (omega arith)
  scan_slim (suc w) (suc (suc b)) in_rank inside =
      let one = upward_some (suc w) (omega arith) in
      let next = send_exists_only_below_ranks (suc w + 1) b (omega arith) in
      sending_slim ranks (suc (suc b)) bytes small 1 1 (suc w + 1) 0 (1 ∷ []) (slot 0) next (All_one (λ (n : ℕ). n < suc (suc b)) 1 (omega arith)) (omega arith) (slot_in_order 0) (omega arith)

  scan_few : (r : ℕ) → scan_count ranks r ≤ 3
  unfolding scan_count
  scan_few r =
      let one = indicator_at_most_one (ltb (r + 1) ranks) in
      let up = upward_few r in
      omega arith

  pub scan_fits : 0 < ranks → ranks ≤ 2048 → AreFitting ranks (λ r. scan_count ranks r) (λ r i. scan_in bytes r i)
  scan_fits some few =
      slim_fitting ranks (λ r. scan_count ranks r) (λ r i. scan_in bytes r i) 1 1 (2048 * 3) some (omega arith)
      scan_slim (total_of_bounded_counts ranks 2048 3 (λ r. scan_count ranks r) few (λ r in_rank. scan_few r)) (omega arith) (omega arith) (omega arith)

  -- the broadcast
  module _ (root : ℕ) (rooted : root < ranks) (few : ranks ≤ rank_limit) where
    bcast_slim : (v i : ℕ) → v < ranks → i < bcast_count ranks v → IsSlim ranks i 1 1 (bcast_in ranks root bytes v i)
    unfolding bcast_in bcast_count
    bcast_slim zero i in_rank inside =
        let low = power_below_digits_at_most (ranks - 1) i (omega arith) inside in
        sending_slim ranks i bytes small 1 1 (ahead ranks (0 + 2 ^ i) root) i [] (slot 0) (ahead_below ranks (0 + 2 ^ i) root (omega arith) (omega arith)) (All-nil (λ (n : ℕ). n < i)) (omega arith) (slot_in_order 0) (omega arith)
    bcast_slim (suc w) zero in_rank inside =
        let j = digits (suc w) - 1 in
        receiving_slim ranks 0 bytes small 1 1 (ahead ranks (suc w - 2 ^ j) root) j (slot 0) (ahead_below ranks (suc w - 2 ^ j) root (omega arith) (omega arith)) (slot_in_order 0) (omega arith)
    bcast_slim (suc w) (suc i) in_rank inside =
        let j = digits (suc w) + i in
        let low = power_below_digits_at_most (ranks - 1 - suc w) (digits (suc w) + i) (omega arith) (omega arith) in
        sending_slim ranks (suc i) bytes small 1 1 (ahead ranks (suc w + 2 ^ j) root) j (0 ∷ []) (slot 0) (ahead_below ranks (suc w + 2 ^ j) root (omega arith) (omega arith)) (All_one (λ (n : ℕ). n < suc i) 0 (omega arith)) (omega arith) (slot_in_order 0) (omega arith)

    pub bcast_few : (v : ℕ) → v < ranks → bcast_count ranks v ≤ 16
    unfolding bcast_count
    bcast_few zero in_rank = digits_few (ranks - 1) 16 (omega arith) (omega arith)
    bcast_few (suc w) in_rank =
        let above = digits_few (ranks - 1 - suc w) 16 (omega arith) (omega arith) in
        let some : 0 < digits (suc w) = digits_some (suc w) (omega arith) (omega arith) in
        omega arith

    pub bcast_fits : AreFitting ranks (λ r. bcast_count ranks (back ranks r root)) (λ r i. bcast_in ranks root bytes (back ranks r root) i)
    bcast_fits =
        slim_fitting ranks (λ r. bcast_count ranks (back ranks r root)) (λ r i. bcast_in ranks root bytes (back ranks r root) i) 1 1 (65536 * 16) (omega arith) (omega arith)
        (λ r i in_rank inside. bcast_slim (back ranks r root) i (back_below ranks r root in_rank) inside)
        (total_of_bounded_counts ranks 65536 16 (λ r. bcast_count ranks (back ranks r root)) few (λ r in_rank. bcast_few (back ranks r root) (back_below ranks r root in_rank))) (omega arith) (omega arith) (omega arith)
