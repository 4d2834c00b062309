-- The places of ranks in a ring and in a tree, and the slots of a part of the tree.
-- With root z, rank r has the virtual rank `back ranks r z`, and the rank of the virtual rank v is
-- `ahead ranks v z`.
use Rattle.std.specs.Prelude.{ℕ, ◌+◌, ◌-◌, ◌/◌, ◌%◌, ◌^◌, ◌==◌, nat_lt, nat_le, min, List, [], ◌∷◌, if◌then◌else◌}
use Rattle.std.specs.Int.Count.{count_leading_zeros, count_trailing_zeros}
use Rattle.goal_blocks.specs.Entries.{Span}

-- s ranks ahead in the ring: (v + s) mod ranks, for s and v below `ranks`
unfoldable pub ahead : ℕ → ℕ → ℕ → ℕ
ahead ranks v s = if nat_lt (v + s) ranks then v + s else v + s - ranks

-- s ranks back in the ring: (r - s) mod ranks, for s and r below `ranks`
unfoldable pub back : ℕ → ℕ → ℕ → ℕ
back ranks r s = if nat_lt r s then r + ranks - s else r - s

-- the rank with the other binary digit of 2^k: r xor 2^k
unfoldable pub flipped : ℕ → ℕ → ℕ
flipped r k = if r / 2 ^ k % 2 == 0 then r + 2 ^ k else r - 2 ^ k

-- the number of binary digits of n: the least j with n < 2^j, for n below 2^32
unfoldable pub digits : ℕ → ℕ
digits n = 32 - count_leading_zeros 32 n

-- the greatest j such that 2^j divides n, for n from 1 to 2^32 - 1
unfoldable pub low : ℕ → ℕ
low n = count_trailing_zeros 32 n

-- in a binomial tree, the number of the children of the virtual rank v: v + 2^j for j below it
unfoldable pub rounds : ℕ → ℕ → ℕ
rounds ranks v = if v == 0 then digits (ranks - 1) else min (low v) (digits (ranks - 1 - v))

-- the rank of the parent of the virtual rank v, which is above 0
unfoldable pub parent : ℕ → ℕ → ℕ → ℕ
parent ranks root v = ahead ranks (v - 2 ^ low v) root

-- 1 for the virtual ranks that have a parent
abbrev pub upward : ℕ → ℕ
upward v = if v == 0 then 0 else 1

-- the slots from x to y in the ring of `ranks` slots: x to y, or x to the last one and then 0 to y
abbrev pub span : ℕ → ℕ → ℕ → List Span
span ranks x y =
    if nat_le x y then record { lo = x; hi = y } ∷ [] else record { lo = x; hi = ranks - 1 } ∷ record { lo = 0; hi = y } ∷ []

-- the slots of the virtual ranks v to v + s - 1, as far as these exist
unfoldable pub share : ℕ → ℕ → ℕ → ℕ → List Span
share ranks root v s = span ranks (ahead ranks v root) (ahead ranks (min (v + s) ranks - 1) root)
