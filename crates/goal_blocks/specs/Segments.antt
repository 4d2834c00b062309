-- Segments of a collective: each does in its own block of slots what the collective does in the first block.
use Rattle.std.specs.Prelude.{ℕ, ◌+◌, ◌-◌, ◌*◌, ◌&&◌, ◌≡◌, ◌<◌, Bool, true, nat_lt, nat_le, List, length, if◌then◌else◌}
use Rattle.goal_graph.specs.declared.action.OpId.{OpId}
use Rattle.goal_graph.specs.Schedule.{Plan}
use Rattle.goal_graph.specs.Action.{Act}
use Rattle.goal_graph.specs.Interleaving.{IsCompleteInterleaving}
use Rattle.goal_limits.specs.declared.collective.Collective.{Collective}
use Rattle.goal_blocks.specs.Values.{Value, Store, value}
use Rattle.goal_blocks.specs.Collectives.{initial, wanted}
use Rattle.goal_blocks.specs.Right.{EndsInItsPairs}
use Rattle.goal_blocks.specs.Certification.{IsCertified}
use Rattle.goal_blocks.specs.Renamed.{under, renamed}

-- the slots of the first block exchanged with those of block number `block`; a block has `width` slots
unfoldable pub exchange : ℕ → ℕ → ℕ → ℕ
exchange width block slot =
    if nat_lt slot width then block * width + slot else (if nat_le (block * width) slot && nat_lt slot (block * width + width) then slot - block * width else slot)

-- the same exchange in each rank
abbrev pub exchanges : ℕ → ℕ → ℕ → ℕ → ℕ
exchanges width block rank slot = exchange width block slot

-- a schedule with the two blocks exchanged in all notes
abbrev pub exchanged : ℕ → ℕ → List Plan → List Plan
exchanged width block plans = renamed (exchanges width block) plans

-- what the slots hold at the start, and must hold at the end, if the collective is done in that block
abbrev pub initial_in : Collective → ℕ → ℕ → ℕ → Store
initial_in what width block ranks = under (exchanges width block) (initial what ranks)

abbrev pub wanted_in : Collective → ℕ → ℕ → ℕ → ℕ → ℕ → Value → Bool
wanted_in what width block ranks = under (exchanges width block) (wanted what ranks)

-- the schedule is certified for a collective in that block
abbrev pub IsCertifiedIn : Collective → ℕ → ℕ → List Plan → Type 0
IsCertifiedIn what width block plans =
    IsCertified plans (initial_in what width block (length plans)) (wanted_in what width block (length plans))

-- at the end each slot of the block holds what the collective wants at its place in the first block
abbrev pub HoldsSegment : Collective → ℕ → ℕ → List Plan → Store → Type 0
HoldsSegment what width block plans store =
    (rank slot : ℕ) → rank < length plans → slot < width → wanted what (length plans) rank slot (store rank (block * width + slot)) ≡ true

-- All segments in one run: each complete interleaving, whichever sends are eager, ends in the pairs of the channels,
-- and each of `count` blocks holds at the end what is wanted of it, from the start of its segment.
abbrev pub AreAllRight : Collective → ℕ → ℕ → List Plan → Type 0
AreAllRight what width count plans = (eager : OpId → Bool) (h : List Act)
    → IsCompleteInterleaving plans eager h
    → (block : ℕ)
    → block < count
    → EndsInItsPairs plans eager h × HoldsSegment what width block plans (value plans eager (initial_in what width block (length plans)) h)
