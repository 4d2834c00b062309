-- The formulas, case by case.
use Rattle.std.proofs.Common.{◌≡◌, ◌≢◌, ℕ, zero, suc, ◌+◌, ◌-◌, ◌*◌, ◌/◌, ◌%◌, ◌^◌, ◌<◌, ◌≤◌, eqb, leb, true, false, [], ◌∷◌, refl, ap, arith, min}
use Rattle.std.proofs.Math.Nat.{le_trans}
use Rattle.std.proofs.lemmas.Bool.Decides.{nat_tests}
use Rattle.goal_limits.specs.Limits.{rank_limit}
use Rattle.goal_limits.specs.declared.collective.Collective.{Collective}
use Rattle.goal_limits.specs.declared.collective.Collective.TheVariants.{Bcast, Barrier, Allgather, Allreduce, Alltoall, Reduce, Gather, Scatter, ReduceScatter, Scan}
use Rattle.goal_limits.specs.MostRanks.{most_ranks}
use Rattle.goal_blocks.specs.Entries.{slot, sending, receiving, summing}
use Rattle.goal_blocks.specs.Positions.{ahead, back, digits, low, rounds, upward, span, share}
use Rattle.goal_blocks.specs.Made.{before_round}
use Rattle.goal_blocks.specs.MadeRooted.{reduce_scatter_in, scan_in}
use Rattle.goal_blocks.proofs.ForCallers.{child_below, rounds_few}

-- the tree

pub rounds_of_root : (ranks v : ℕ) → v ≡ 0 → digits (ranks - 1 - v) ≡ rounds ranks v
unfolding rounds
rounds_of_root ranks zero e = ap digits (omega arith)
rounds_of_root ranks (suc w) e = absurd (omega arith)

pub rounds_of_other : (ranks v : ℕ) → 0 < v → min (low v) (digits (ranks - 1 - v)) ≡ rounds ranks v
unfolding rounds
rounds_of_other ranks v some =
    let e : eqb v 0 ≡ false = grind (arith, nat_tests) in
    rw e refl

-- a virtual rank has at most one parent
pub at_most_one_parent : (v : ℕ) → upward v ≤ 1
at_most_one_parent v = grind (arith, nat_tests)

-- a round of a virtual rank is below 16, and its child is a virtual rank
pub record IsChild (ranks v j : ℕ) : Type 0 where
  pub few : j < 16
  pub child : v + 2 ^ j < ranks

pub round_has_child : (ranks v j : ℕ) → ranks ≤ rank_limit → v < ranks → j < rounds ranks v → IsChild ranks v j
round_has_child ranks v j few inside lt =
    record { few = omega (arith, rounds_few ranks few v); child = child_below ranks few v j inside lt }

pub span_without_wrap : (ranks x y : ℕ) → x ≤ y → record { lo = x; hi = y } ∷ [] ≡ span ranks x y
span_without_wrap ranks x y le =
    let t : leb x y ≡ true = grind (arith, nat_tests) in
    rw t refl

pub span_with_wrap : (ranks x y : ℕ) → y < x → record { lo = x; hi = ranks - 1 } ∷ record { lo = 0; hi = y } ∷ [] ≡ span ranks x y
span_with_wrap ranks x y lt =
    let t : leb x y ≡ false = grind (arith, nat_tests) in
    rw t refl

pub share_by_spans : (ranks root v s x y : ℕ) → x ≡ ahead ranks v root → y ≡ ahead ranks (min (v + s) ranks - 1) root → span ranks x y ≡ share ranks root v s
unfolding share
share_by_spans ranks root v s x y a b = rw (a, b) refl

module _ (ranks bytes r i : ℕ) where
  pub part_sends : i % 3 ≡ 0 → sending bytes (ahead ranks r 1) (i / 3) (before_round (i / 3)) (slot (back ranks r (i / 3 + 1))) ≡ reduce_scatter_in ranks bytes r i
  unfolding reduce_scatter_in
  part_sends e = rw e refl

  pub part_receives : i % 3 ≡ 1 → receiving bytes (back ranks r 1) (i / 3) (slot (ranks + back ranks r (i / 3 + 2))) ≡ reduce_scatter_in ranks bytes r i
  unfolding reduce_scatter_in
  part_receives e = rw e refl

  pub part_sums : i % 3 ≢ 0 → i % 3 ≢ 1 → summing ((3 * (i / 3) + 1) ∷ []) (ranks + back ranks r (i / 3 + 2)) (back ranks r (i / 3 + 2)) ≡ reduce_scatter_in ranks bytes r i
  unfolding reduce_scatter_in
  part_sums a b =
      let e : i % 3 ≡ 2 = omega arith in
      rw e refl

module _ (bytes : ℕ) where
  pub scan_begins : (r i : ℕ) → r ≡ 0 → sending bytes 1 0 [] (slot 0) ≡ scan_in bytes r i
  unfolding scan_in
  scan_begins zero i e = refl
  scan_begins (suc w) i e = absurd (omega arith)

  pub scan_receives : (r i : ℕ) → 0 < r → i ≡ 0 → receiving bytes (r - 1) 0 (slot 1) ≡ scan_in bytes r i
  unfolding scan_in
  scan_receives zero i some e = absurd (omega arith)
  scan_receives (suc w) zero some e =
      let same : suc w - 1 ≡ w = omega arith in
      rw same refl
  scan_receives (suc w) (suc i) some e = absurd (omega arith)

  pub scan_sums : (r i : ℕ) → 0 < r → i ≡ 1 → summing (0 ∷ []) 1 0 ≡ scan_in bytes r i
  unfolding scan_in
  scan_sums zero i some e = absurd (omega arith)
  scan_sums (suc w) zero some e = absurd (omega arith)
  scan_sums (suc w) (suc zero) some e = refl
  scan_sums (suc w) (suc (suc i)) some e = absurd (omega arith)

  pub scan_sends : (r i : ℕ) → 0 < r → 1 < i → sending bytes (r + 1) 0 (1 ∷ []) (slot 0) ≡ scan_in bytes r i
  unfolding scan_in
  scan_sends zero i some e = absurd (omega arith)
  scan_sends (suc w) zero some e = absurd (omega arith)
  scan_sends (suc w) (suc zero) some e = absurd (omega arith)
  scan_sends (suc w) (suc (suc i)) some e = refl

-- no collective may have more than 65536 ranks
pub most_ranks_few : (what : Collective) → most_ranks what ≤ 65536
most_ranks_few (Bcast root) = omega arith
most_ranks_few Barrier = omega arith
most_ranks_few Allgather = omega arith
most_ranks_few Allreduce = omega arith
most_ranks_few Alltoall = omega arith
most_ranks_few (Reduce root) = omega arith
most_ranks_few (Gather root) = omega arith
most_ranks_few (Scatter root) = omega arith
most_ranks_few ReduceScatter = omega arith
most_ranks_few Scan = omega arith

-- so a virtual rank has at most 16 children
pub rounds_within : (what : Collective) (ranks v : ℕ) → ranks ≤ most_ranks what → rounds ranks v ≤ 16
rounds_within what ranks v few = rounds_few ranks (le_trans few (most_ranks_few what)) v
