-- The schedules of the reduce, gather, scatter, reduce_scatter and scan: operation number i of rank r. v is a virtual
-- rank.
use Rattle.std.specs.Prelude.{ℕ, zero, suc, ◌+◌, ◌-◌, ◌*◌, ◌/◌, ◌%◌, ◌^◌, nat_lt, List, [], ◌∷◌, if◌then◌else◌}
use Rattle.std.specs.List.{range_with_len}
use Rattle.goal_blocks.specs.Entries.{Entry, slot, sending, receiving, summing}
use Rattle.goal_blocks.specs.Positions.{ahead, back, low, rounds, parent, upward, share}
use Rattle.goal_blocks.specs.Made.{before_round}

-- Reduce, up a binomial tree: v receives from its children v + 2^j, for rising j, into slot j + 1, and adds that slot
-- to slot 0; then it sends slot 0 to its parent.

-- the last calc of the rounds below j, if any
abbrev pub earlier_sum : ℕ → List ℕ
earlier_sum zero = []
earlier_sum (suc j) = (j + j + 1) ∷ []

-- the operations of round j: a receive and a calc
abbrev pub hear_in : ℕ → ℕ → ℕ → ℕ → ℕ → ℕ → Entry
hear_in ranks root bytes v j zero = receiving bytes (ahead ranks (v + 2 ^ j) root) j (slot (j + 1))
hear_in ranks root bytes v j (suc b) = summing ((j + j) ∷ earlier_sum j) (j + 1) 0

unfoldable pub reduce_in : ℕ → ℕ → ℕ → ℕ → ℕ → Entry
reduce_in ranks root bytes v i =
    if nat_lt (i / 2) (rounds ranks v)
    then hear_in ranks root bytes v (i / 2) (i % 2)
    else sending bytes (parent ranks root v) (low v) (earlier_sum (rounds ranks v)) (slot 0)

-- Gather, up the same tree: v receives from its child v + 2^j the slots of 2^j virtual ranks from the child on. After
-- all receives it sends the slots of its own 2^low v virtual ranks to its parent.
unfoldable pub gather_in : ℕ → ℕ → ℕ → ℕ → ℕ → Entry
gather_in ranks root bytes v i =
    if nat_lt i (rounds ranks v)
    then receiving bytes (ahead ranks (v + 2 ^ i) root) i (share ranks root (v + 2 ^ i) (2 ^ i))
    else sending bytes (parent ranks root v) (low v) (range_with_len 0 (rounds ranks v)) (share ranks root v (2 ^ low v))

-- Scatter, down the same tree: v receives the slots of its own 2^low v virtual ranks. Then it sends to its children v +
-- 2^j, for falling j, the slots of 2^j virtual ranks from the child on.

abbrev pub give_in : ℕ → ℕ → ℕ → ℕ → ℕ → List ℕ → Entry
give_in ranks root bytes v j needs =
    sending bytes (ahead ranks (v + 2 ^ j) root) j needs (share ranks root (v + 2 ^ j) (2 ^ j))

unfoldable pub scatter_in : ℕ → ℕ → ℕ → ℕ → ℕ → Entry
scatter_in ranks root bytes zero i = give_in ranks root bytes 0 (rounds ranks 0 - 1 - i) []
scatter_in ranks root bytes (suc w) zero =
    receiving bytes (parent ranks root (suc w)) (low (suc w)) (share ranks root (suc w) (2 ^ low (suc w)))
scatter_in ranks root bytes (suc w) (suc i) =
    give_in ranks root bytes (suc w) (rounds ranks (suc w) - 1 - i) (0 ∷ [])

-- Reduce and scatter, along a ring, with the operations 3s to 3s + 2 in step s: a slot is sent ahead, the slot before
-- it is received, and is added to the rank's own.
abbrev pub part_in : ℕ → ℕ → ℕ → ℕ → ℕ → Entry
part_in ranks bytes r s zero =
    sending bytes (ahead ranks r 1) s (before_round s) (slot (back ranks r (s + 1)))
part_in ranks bytes r s (suc zero) =
    receiving bytes (back ranks r 1) s (slot (ranks + back ranks r (s + 2)))
part_in ranks bytes r s (suc (suc b)) =
    summing ((3 * s + 1) ∷ []) (ranks + back ranks r (s + 2)) (back ranks r (s + 2))

unfoldable pub reduce_scatter_in : ℕ → ℕ → ℕ → ℕ → Entry
reduce_scatter_in ranks bytes r i = part_in ranks bytes r (i / 3) (i % 3)

-- Scan, along a line: a rank receives from the one before it, adds that to its own, and sends the sum to the next.
unfoldable pub scan_in : ℕ → ℕ → ℕ → Entry
scan_in bytes zero i = sending bytes 1 0 [] (slot 0)
scan_in bytes (suc w) zero = receiving bytes w 0 (slot 1)
scan_in bytes (suc w) (suc zero) = summing (0 ∷ []) 1 0
scan_in bytes (suc w) (suc (suc b)) = sending bytes (suc w + 1) 0 (1 ∷ []) (slot 0)

-- all but the first rank receive, and all but the last send
unfoldable pub scan_count : ℕ → ℕ → ℕ
scan_count ranks r = 2 * upward r + (if nat_lt (r + 1) ranks then 1 else 0)
