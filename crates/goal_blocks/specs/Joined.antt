-- Joined starts: what is held from two of them together, and the segments of a collective that all begin together.
use Rattle.std.specs.Prelude.{ℕ, zero, suc, ◌+◌, ◌*◌, ◌&&◌, ◌≡◌, ◌<◌, Bool, true, not, nat_lt, nat_le, List, [], length, if◌then◌else◌}
use Rattle.goal_graph.specs.declared.action.OpId.{OpId}
use Rattle.goal_graph.specs.Schedule.{Plan}
use Rattle.goal_graph.specs.Action.{Act}
use Rattle.goal_graph.specs.Interleaving.{IsCompleteInterleaving}
use Rattle.goal_limits.specs.declared.collective.Collective.{Collective}
use Rattle.goal_blocks.specs.Values.{Value, Store, merge, value}
use Rattle.goal_blocks.specs.Collectives.{is_value}
use Rattle.goal_blocks.specs.Right.{EndsInItsPairs}
use Rattle.goal_blocks.specs.Certification.{IsCertified}
use Rattle.goal_blocks.specs.Segments.{initial_in, IsCertifiedIn, HoldsSegment}

-- each slot holds what it holds in both, merged
abbrev pub joined : Store → Store → Store
joined first more rank slot = merge (first rank slot) (more rank slot)

-- the starts of the first `count` segments, joined
unfoldable pub all_starts : Collective → ℕ → ℕ → ℕ → Store
all_starts what width zero ranks rank slot = []
all_starts what width (suc count) ranks rank slot =
    merge (all_starts what width count ranks rank slot) (initial_in what width count ranks rank slot)

-- a slot of one of the `count` blocks other than this one
abbrev pub is_elsewhere : ℕ → ℕ → ℕ → ℕ → Bool
is_elsewhere width count block slot =
    nat_lt slot (count * width) && not (nat_le (block * width) slot && nat_lt slot (block * width + width))

-- the slots of all other blocks are empty
abbrev pub keeps_out : ℕ → ℕ → ℕ → ℕ → ℕ → Value → Bool
keeps_out width count block rank slot v = if is_elsewhere width count block slot then is_value v [] else true

-- The laws hold for all schedules. The function `laws_of_joined_starts` ensures each of them.

-- what is held from two joined starts is what is held from each of them, merged
abbrev pub JoinedHoldsBoth : Type 0
JoinedHoldsBoth = (plans : List Plan) (eager : OpId → Bool) (first more : Store) (h : List Act) (rank slot : ℕ) → value plans eager (joined first more) h rank slot ≡ merge (value plans eager first h rank slot) (value plans eager more h rank slot)

-- A schedule that is certified in each of `count` blocks, and for leaving the other blocks empty, is right in all
-- blocks together: from the joined starts of all segments, each complete interleaving, whichever sends are eager,
-- leaves in each block what it leaves there from the start of its own segment alone, which is what is wanted.
abbrev pub SegmentsAtOnce : Type 0
SegmentsAtOnce = (what : Collective) (width count : ℕ) (plans : List Plan) (eager : OpId → Bool) (h : List Act)
    → ((block : ℕ) → block < count → IsCertifiedIn what width block plans)
    → ((block : ℕ) → block < count → IsCertified plans (initial_in what width block (length plans)) (keeps_out width count block))
    → IsCompleteInterleaving plans eager h
    → (block : ℕ)
    → block < count
    → EndsInItsPairs plans eager h × HoldsSegment what width block plans (value plans eager (all_starts what width count (length plans)) h) × ((rank slot : ℕ) → rank < length plans → slot < width → value plans eager (all_starts what width count (length plans)) h rank (block * width + slot) ≡ value plans eager (initial_in what width block (length plans)) h rank (block * width + slot))
