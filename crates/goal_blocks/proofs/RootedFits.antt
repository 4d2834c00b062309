-- The entries of the reduce, gather and scatter fit.
use Rattle.std.proofs.Common.{◌≡◌, ℕ, zero, suc, ◌+◌, ◌-◌, ◌*◌, ◌/◌, ◌%◌, ◌^◌, ◌<◌, ◌≤◌, ltb, leb, Bool, true, false, List, [], ◌∷◌, length, All, refl, arith, min}
use Rattle.std.specs.Prelude.{if◌then◌else◌}
use Rattle.std.specs.List.{range_with_len}
use Rattle.std.proofs.lemmas.Bool.Decides.{nat_tests}
use Rattle.std.proofs.lemmas.List.Elements.{All-nil, All-cons}
use Rattle.std.proofs.lemmas.List.FromFn.{length-range_with_len}
use Rattle.goal_limits.specs.Limits.{rank_limit}
use Rattle.goal_limits.specs.declared.limits.TheConstants.{MAX_BYTES}
use Rattle.goal_blocks.specs.Entries.{Span, slot, sending, receiving}
use Rattle.goal_blocks.specs.Fitting.{AreFitting}
use Rattle.goal_blocks.specs.Positions.{ahead, back, low, rounds, parent, upward, span, share}
use Rattle.goal_blocks.specs.MadeRooted.{earlier_sum, hear_in, reduce_in, gather_in, give_in, scatter_in}
use Rattle.goal_blocks.proofs.Fitting.{All-range}
use Rattle.goal_blocks.proofs.RingAndTree.{ahead_below, back_below, upward_some, upward_few}
use Rattle.goal_blocks.proofs.Slim.{IsSlim, AreInOrder, All_one, All_two, slot_in_order, sending_slim, receiving_slim, summing_slim, slim_fitting}
use Rattle.goal_blocks.proofs.Trees.{rounds_few, child_below, tree_total}

lower_earlier_sum : (j i : ℕ) → 2 * j ≤ i → All (λ (n : ℕ). n < i) (earlier_sum j)
lower_earlier_sum zero i le = All-nil (λ (n : ℕ). n < i)
lower_earlier_sum (suc j) i le = All_one (λ (n : ℕ). n < i) (j + j + 1) (omega arith)

few_earlier_sum : (j : ℕ) → length (earlier_sum j) ≤ 1
few_earlier_sum zero = omega arith
few_earlier_sum (suc j) = omega arith

-- a share has one or two spans, in order
record IsShare (spans : List Span) : Type 0 where
  ordered : AreInOrder spans
  short : length spans ≤ 2

span_is_share : (ranks x y : ℕ) → x < ranks → IsShare (span ranks x y)
span_is_share ranks x y inside = go (leb x y) refl
  where
    go : (b : Bool) → leb x y ≡ b → IsShare (if b then record { lo = x; hi = y } ∷ [] else record { lo = x; hi = ranks - 1 } ∷ record { lo = 0; hi = y } ∷ [])
    go true e = record { ordered = All_one (λ (s : Span). s.lo ≤ s.hi) (record { lo = x; hi = y }) (grind (arith, nat_tests)); short = omega arith }
    go false e = record { ordered = All_two (λ (s : Span). s.lo ≤ s.hi) (record { lo = x; hi = ranks - 1 }) (record { lo = 0; hi = y }) (omega arith) (omega arith); short = omega arith }

module _ (ranks bytes : ℕ) (small : bytes ≤ MAX_BYTES) (root : ℕ) (rooted : root < ranks) (few : ranks ≤ rank_limit) where
  share_in_order_and_short : (v s : ℕ) → v < ranks → IsShare (share ranks root v s)
  unfolding share
  share_in_order_and_short v s inside = span_is_share ranks (ahead ranks v root) (ahead ranks (min (v + s) ranks - 1) root) (ahead_below ranks v root inside (omega arith))

  parent_below : (v : ℕ) → v < ranks → parent ranks root v < ranks
  unfolding parent
  parent_below v inside = ahead_below ranks (v - 2 ^ low v) root (omega arith) (omega arith)

  child_rank : (v j : ℕ) → v < ranks → j < rounds ranks v → ahead ranks (v + 2 ^ j) root < ranks
  child_rank v j inside lt = ahead_below ranks (v + 2 ^ j) root (child_below ranks few v j inside lt) (omega arith)

  -- the reduce
  hear_slim : (v j b i : ℕ) → v < ranks → j < rounds ranks v → i ≡ 2 * j + b → b < 2 → IsSlim ranks i 2 1 (hear_in ranks root bytes v j b)
  hear_slim v j zero i inside lt e two =
      receiving_slim ranks i bytes small 2 1 (ahead ranks (v + 2 ^ j) root) j (slot (j + 1)) (child_rank v j inside lt) (slot_in_order (j + 1)) (omega arith)
  hear_slim v j (suc b) i inside lt e two =
      let le = few_earlier_sum j in
      summing_slim ranks i 2 1 ((j + j) ∷ earlier_sum j) (j + 1) 0 (All-cons (λ (n : ℕ). n < i) (j + j) (earlier_sum j) (omega arith) (lower_earlier_sum j i (omega arith))) (omega arith) (omega arith)

  reduce_slim : (v i : ℕ) → v < ranks → IsSlim ranks i 2 1 (reduce_in ranks root bytes v i)
  unfolding reduce_in
  reduce_slim v i inside = go (ltb (i / 2) (rounds ranks v)) refl
    where
      go : (b : Bool) → ltb (i / 2) (rounds ranks v) ≡ b → IsSlim ranks i 2 1 (if b then hear_in ranks root bytes v (i / 2) (i % 2) else sending bytes (parent ranks root v) (low v) (earlier_sum (rounds ranks v)) (slot 0))
      go true e = hear_slim v (i / 2) (i % 2) i inside (grind (arith, nat_tests)) (omega arith) (omega arith)
      go false e =
          let after : rounds ranks v ≤ i / 2 = grind (arith, nat_tests) in
          let le = few_earlier_sum (rounds ranks v) in
          sending_slim ranks i bytes small 2 1 (parent ranks root v) (low v) (earlier_sum (rounds ranks v)) (slot 0) (parent_below v inside) (lower_earlier_sum (rounds ranks v) i (omega arith)) (omega arith) (slot_in_order 0) (omega arith)

  pub reduce_fits : AreFitting ranks (λ r. 2 * rounds ranks (back ranks r root) + upward (back ranks r root)) (λ r i. reduce_in ranks root bytes (back ranks r root) i)
  reduce_fits =
      slim_fitting ranks (λ r. 2 * rounds ranks (back ranks r root) + upward (back ranks r root)) (λ r i. reduce_in ranks root bytes (back ranks r root) i) 2 1 196640 (omega arith) (omega arith)
      (λ r i in_rank inside. reduce_slim (back ranks r root) i (back_below ranks r root in_rank))
      (tree_total ranks few root rooted (λ v. 2 * rounds ranks v + upward v) (λ v. omega (arith, upward_few v))) (omega arith) (omega arith) (omega arith)

  -- the gather
  gather_slim : (v i : ℕ) → v < ranks → i < rounds ranks v + upward v → IsSlim ranks i 16 2 (gather_in ranks root bytes v i)
  unfolding gather_in
  gather_slim v i inside lt = go (ltb i (rounds ranks v)) refl
    where
      go : (b : Bool) → ltb i (rounds ranks v) ≡ b → IsSlim ranks i 16 2 (if b then receiving bytes (ahead ranks (v + 2 ^ i) root) i (share ranks root (v + 2 ^ i) (2 ^ i)) else sending bytes (parent ranks root v) (low v) (range_with_len 0 (rounds ranks v)) (share ranks root v (2 ^ low v)))
      go true e =
          let below : i < rounds ranks v = grind (arith, nat_tests) in
          let part = share_in_order_and_short (v + 2 ^ i) (2 ^ i) (child_below ranks few v i inside below) in
          receiving_slim ranks i bytes small 16 2 (ahead ranks (v + 2 ^ i) root) i (share ranks root (v + 2 ^ i) (2 ^ i)) (child_rank v i inside below) part.ordered part.short
      go false e =
          let after : rounds ranks v ≤ i = grind (arith, nat_tests) in
          let part = share_in_order_and_short v (2 ^ low v) inside in
          sending_slim ranks i bytes small 16 2 (parent ranks root v) (low v) (range_with_len 0 (rounds ranks v)) (share ranks root v (2 ^ low v)) (parent_below v inside)
          (All-range (λ (k : ℕ). k < i) (rounds ranks v) (λ k l. omega arith)) (omega (arith, length-range_with_len 0 (rounds ranks v), rounds_few ranks few v)) part.ordered part.short

  pub gather_fits : AreFitting ranks (λ r. rounds ranks (back ranks r root) + upward (back ranks r root)) (λ r i. gather_in ranks root bytes (back ranks r root) i)
  gather_fits =
      slim_fitting ranks (λ r. rounds ranks (back ranks r root) + upward (back ranks r root)) (λ r i. gather_in ranks root bytes (back ranks r root) i) 16 2 196640 (omega arith) (omega arith)
      (λ r i in_rank inside. gather_slim (back ranks r root) i (back_below ranks r root in_rank) inside)
      (tree_total ranks few root rooted (λ v. rounds ranks v + upward v) (λ v. omega (arith, upward_few v))) (omega arith) (omega arith) (omega arith)

  -- the scatter
  give_slim : (v j i : ℕ) (needs : List ℕ) → v < ranks → j < rounds ranks v → All (λ (n : ℕ). n < i) needs → length needs ≤ 1 → IsSlim ranks i 1 2 (give_in ranks root bytes v j needs)
  give_slim v j i needs inside lt lower le =
      let part = share_in_order_and_short (v + 2 ^ j) (2 ^ j) (child_below ranks few v j inside lt) in
      sending_slim ranks i bytes small 1 2 (ahead ranks (v + 2 ^ j) root) j needs (share ranks root (v + 2 ^ j) (2 ^ j)) (child_rank v j inside lt) lower le part.ordered part.short

  scatter_slim : (v i : ℕ) → v < ranks → i < upward v + rounds ranks v → IsSlim ranks i 1 2 (scatter_in ranks root bytes v i)
  unfolding scatter_in
  scatter_slim zero i inside lt = give_slim 0 (rounds ranks 0 - 1 - i) i [] inside (omega arith) (All-nil (λ (n : ℕ). n < i)) (omega arith)
  scatter_slim (suc w) zero inside lt =
      let part = share_in_order_and_short (suc w) (2 ^ low (suc w)) inside in
      receiving_slim ranks 0 bytes small 1 2 (parent ranks root (suc w)) (low (suc w)) (share ranks root (suc w) (2 ^ low (suc w))) (parent_below (suc w) inside) part.ordered part.short
  scatter_slim (suc w) (suc i) inside lt =
      let one = upward_some (suc w) (omega arith) in
      give_slim (suc w) (rounds ranks (suc w) - 1 - i) (suc i) (0 ∷ []) inside (omega arith) (All_one (λ (n : ℕ). n < suc i) 0 (omega arith)) (omega arith)

  pub scatter_fits : AreFitting ranks (λ r. upward (back ranks r root) + rounds ranks (back ranks r root)) (λ r i. scatter_in ranks root bytes (back ranks r root) i)
  scatter_fits =
      slim_fitting ranks (λ r. upward (back ranks r root) + rounds ranks (back ranks r root)) (λ r i. scatter_in ranks root bytes (back ranks r root) i) 1 2 196640 (omega arith) (omega arith)
      (λ r i in_rank inside. scatter_slim (back ranks r root) i (back_below ranks r root in_rank) inside)
      (tree_total ranks few root rooted (λ v. upward v + rounds ranks v) (λ v. omega (arith, upward_few v))) (omega arith) (omega arith) (omega arith)
