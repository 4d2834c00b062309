-- The formulas of the reduce, gather and scatter, case by case.
use Rattle.std.proofs.Common.{◌≡◌, ◌≢◌, ℕ, zero, suc, ◌+◌, ◌-◌, ◌/◌, ◌%◌, ◌^◌, ◌<◌, ◌≤◌, ltb, true, false, [], ◌∷◌, refl, ap, arith}
use Rattle.std.specs.List.{range_with_len}
use Rattle.std.proofs.lemmas.Bool.Decides.{nat_tests}
use Rattle.goal_blocks.specs.Entries.{slot, sending, receiving, summing}
use Rattle.goal_blocks.specs.Positions.{ahead, low, rounds, parent, share}
use Rattle.goal_blocks.specs.MadeRooted.{earlier_sum, reduce_in, gather_in, give_in, scatter_in}

module _ (ranks root bytes v : ℕ) where
  pub reduce_sends : (i : ℕ) → rounds ranks v ≤ i / 2 → sending bytes (parent ranks root v) (low v) (earlier_sum (rounds ranks v)) (slot 0) ≡ reduce_in ranks root bytes v i
  unfolding reduce_in
  reduce_sends i le =
      let t : ltb (i / 2) (rounds ranks v) ≡ false = grind (arith, nat_tests) in
      rw t refl

  pub reduce_hears : (i : ℕ) → i / 2 < rounds ranks v → i % 2 ≡ 0 → receiving bytes (ahead ranks (v + 2 ^ (i / 2)) root) (i / 2) (slot (i / 2 + 1)) ≡ reduce_in ranks root bytes v i
  unfolding reduce_in
  reduce_hears i lt even =
      let t : ltb (i / 2) (rounds ranks v) ≡ true = grind (arith, nat_tests) in
      rw (t, even) refl

  pub reduce_sums : (i : ℕ) → i / 2 < rounds ranks v → i % 2 ≢ 0 → summing ((i / 2 + i / 2) ∷ earlier_sum (i / 2)) (i / 2 + 1) 0 ≡ reduce_in ranks root bytes v i
  unfolding reduce_in
  reduce_sums i lt odd =
      let t : ltb (i / 2) (rounds ranks v) ≡ true = grind (arith, nat_tests) in
      let one : i % 2 ≡ 1 = omega arith in
      rw (t, one) refl

  pub gather_sends : (i : ℕ) → rounds ranks v ≤ i → sending bytes (parent ranks root v) (low v) (range_with_len 0 (rounds ranks v)) (share ranks root v (2 ^ low v)) ≡ gather_in ranks root bytes v i
  unfolding gather_in
  gather_sends i le =
      let t : ltb i (rounds ranks v) ≡ false = grind (arith, nat_tests) in
      rw t refl

  pub gather_hears : (i : ℕ) → i < rounds ranks v → receiving bytes (ahead ranks (v + 2 ^ i) root) i (share ranks root (v + 2 ^ i) (2 ^ i)) ≡ gather_in ranks root bytes v i
  unfolding gather_in
  gather_hears i lt =
      let t : ltb i (rounds ranks v) ≡ true = grind (arith, nat_tests) in
      rw t refl

module _ (ranks root bytes : ℕ) where
  pub scatter_gives_first : (v i : ℕ) → v ≡ 0 → give_in ranks root bytes v (rounds ranks v - 1 - i) [] ≡ scatter_in ranks root bytes v i
  unfolding scatter_in
  scatter_gives_first zero i e = refl
  scatter_gives_first (suc w) i e = absurd (omega arith)

  pub scatter_takes : (v i : ℕ) → 0 < v → i ≡ 0 → receiving bytes (parent ranks root v) (low v) (share ranks root v (2 ^ low v)) ≡ scatter_in ranks root bytes v i
  unfolding scatter_in
  scatter_takes zero i some e = absurd (omega arith)
  scatter_takes (suc w) zero some e = refl
  scatter_takes (suc w) (suc i) some e = absurd (omega arith)

  pub scatter_gives : (v i : ℕ) → 0 < v → 0 < i → give_in ranks root bytes v (rounds ranks v - 1 - (i - 1)) (0 ∷ []) ≡ scatter_in ranks root bytes v i
  unfolding scatter_in
  scatter_gives zero i some e = absurd (omega arith)
  scatter_gives (suc w) zero some e = absurd (omega arith)
  scatter_gives (suc w) (suc i) some e =
      let same : rounds ranks (suc w) - 1 - (suc i - 1) ≡ rounds ranks (suc w) - 1 - i = omega arith in
      ap (λ (j : ℕ). give_in ranks root bytes (suc w) j (0 ∷ [])) same
