-- The schedules of the broadcast, barrier, allgather, allreduce and alltoall: operation number i of rank r. All
-- messages have `bytes` bytes. The tag of a message is the number of its step or round.
use Rattle.std.specs.Prelude.{ℕ, zero, suc, ◌+◌, ◌-◌, ◌*◌, ◌/◌, ◌%◌, ◌^◌, List, [], ◌∷◌}
use Rattle.goal_blocks.specs.Entries.{Entry, slot, sending, receiving, summing}
use Rattle.goal_blocks.specs.Positions.{ahead, back, flipped, digits}

-- Broadcast, along a binomial tree: in round j each virtual rank v below 2^j sends to v + 2^j, if that exists. A rank
-- receives once, in the round of its highest binary digit, and sends in the rounds after it.

abbrev pub bcast_send : ℕ → ℕ → ℕ → ℕ → ℕ → List ℕ → Entry
bcast_send ranks root bytes v j needs = sending bytes (ahead ranks (v + 2 ^ j) root) j needs (slot 0)

-- the virtual rank v is the argument before the operation's number
unfoldable pub bcast_in : ℕ → ℕ → ℕ → ℕ → ℕ → Entry
bcast_in ranks root bytes zero i = bcast_send ranks root bytes 0 i []
bcast_in ranks root bytes (suc w) zero =
    receiving bytes (ahead ranks (suc w - 2 ^ (digits (suc w) - 1)) root) (digits (suc w) - 1) (slot 0)
bcast_in ranks root bytes (suc w) (suc i) =
    bcast_send ranks root bytes (suc w) (digits (suc w) + i) (0 ∷ [])

unfoldable pub bcast_count : ℕ → ℕ → ℕ
bcast_count ranks zero = digits (ranks - 1)
bcast_count ranks (suc w) = suc (digits (ranks - 1 - suc w) - digits (suc w))

-- Rounds of three operations, 3k to 3k + 2 in round k: slot 0 is sent, the message is received into slot k + 1, and
-- slot k + 1 is added to slot 0. The send needs the calc before it; the calc needs its send and its receive.

abbrev pub before_round : ℕ → List ℕ
before_round zero = []
before_round (suc k) = (3 * k + 2) ∷ []

abbrev pub round_in : ℕ → ℕ → ℕ → ℕ → ℕ → Entry
round_in bytes to from k zero = sending bytes to k (before_round k) (slot 0)
round_in bytes to from k (suc zero) = receiving bytes from k (slot (k + 1))
round_in bytes to from k (suc (suc b)) = summing ((3 * k) ∷ (3 * k + 1) ∷ []) (k + 1) 0

-- Barrier, by dissemination: in round k each rank sends to the one 2^k ahead
unfoldable pub barrier_in : ℕ → ℕ → ℕ → ℕ → Entry
barrier_in ranks bytes r i =
    round_in bytes (ahead ranks r (2 ^ (i / 3))) (back ranks r (2 ^ (i / 3))) (i / 3) (i % 3)

-- Allreduce, by recursive doubling: in round k each rank exchanges with the one that differs in the binary digit of 2^k
unfoldable pub allreduce_in : ℕ → ℕ → ℕ → Entry
allreduce_in bytes r i = round_in bytes (flipped r (i / 3)) (flipped r (i / 3)) (i / 3) (i % 3)

-- Allgather, along a ring: in step s each rank sends on what it received in the step before; at first it sends its own

-- the need of the send of step s: the receive of the step before
abbrev pub before_send : ℕ → List ℕ
before_send zero = []
before_send (suc s) = (s + s + 1) ∷ []

-- the operations of step s: a send, and a receive
abbrev pub ring_in : ℕ → ℕ → ℕ → ℕ → ℕ → Entry
ring_in ranks bytes r s zero = sending bytes (ahead ranks r 1) s (before_send s) (slot (back ranks r s))
ring_in ranks bytes r s (suc b) = receiving bytes (back ranks r 1) s (slot (back ranks r (s + 1)))

unfoldable pub allgather_in : ℕ → ℕ → ℕ → ℕ → Entry
allgather_in ranks bytes r i = ring_in ranks bytes r (i / 2) (i % 2)

-- Alltoall, by shifts: a calc copies the rank's own value; in step s, from 1 on, each rank sends to the one s ahead.
-- There are no dependencies.

abbrev pub shift_in : ℕ → ℕ → ℕ → ℕ → ℕ → Entry
shift_in ranks bytes r s zero = sending bytes (ahead ranks r s) s [] (slot (ahead ranks r s))
shift_in ranks bytes r s (suc b) = receiving bytes (back ranks r s) s (slot (ranks + back ranks r s))

unfoldable pub alltoall_in : ℕ → ℕ → ℕ → ℕ → Entry
alltoall_in ranks bytes r zero = summing [] r (ranks + r)
alltoall_in ranks bytes r (suc i) = shift_in ranks bytes r (i / 2 + 1) (i % 2)
