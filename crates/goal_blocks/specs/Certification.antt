-- When a schedule is certified, for slots that hold `first` at the start, and whose values at the end
-- must pass the test `wanted`.
-- Each condition can be read separately.
use Rattle.std.specs.Prelude.{ℕ, ◌+◌, ◌-◌, ◌≡◌, ◌<◌, ◌≤◌, Bool, true, List, [], ◌∷◌, length, All, Option, Some}
use Rattle.std.specs.List.{sum_by}
use Rattle.goal_limits.specs.Limits.{certified_op_limit, slot_limit, moved_limit, weight_limit}
use Rattle.goal_graph.specs.declared.action.OpId.{OpId}
use Rattle.goal_graph.specs.declared.plan.Kind.{Kind}
use Rattle.goal_graph.specs.declared.plan.Kind.TheVariants.{Calc}
use Rattle.goal_graph.specs.declared.plan.Note.{Note}
use Rattle.goal_graph.specs.declared.plan.Note.TheVariants.{Moves, Adds}
use Rattle.goal_graph.specs.Schedule.{Plan, kind_at}
use Rattle.goal_graph.specs.Action.{Act}
use Rattle.goal_blocks.specs.Channels.{AreOfOneChannel}
use Rattle.goal_blocks.specs.Slots.{slots}
use Rattle.goal_blocks.specs.Walk.{no_send}
use Rattle.goal_blocks.specs.Matched.{IsMatched}
use Rattle.goal_blocks.specs.Race.{HasNoRace}
use Rattle.goal_blocks.specs.Values.{Value, Store, Held, held_after, value}
use Rattle.goal_blocks.specs.Weight.{weight, weight_within}

-- the slots that a note names are at most 65,535
abbrev pub NamesLowSlots : Note → Type 0
NamesLowSlots (Moves op lo hi) = (lo ≤ slot_limit) × (hi ≤ slot_limit)
NamesLowSlots (Adds op from to) = (from ≤ slot_limit) × (to ≤ slot_limit)

-- the number of slots that a note moves
abbrev pub moved_count : Note → ℕ
moved_count (Moves op lo hi) = hi + 1 - lo
moved_count (Adds op from to) = 0

-- A rank has at most 2,048 operations, notes name slots up to 65,535, and all notes together move at most 2^24 slots,
-- each counted as often as it is named.
pub record IsSmall (plans : List Plan) : Type 0 where
  pub operations : All (λ (p : Plan). length p.ops ≤ certified_op_limit) plans
  pub slots : All (λ (p : Plan). All NamesLowSlots p.notes) plans
  pub moves : sum_by (λ (p : Plan). sum_by moved_count p.notes) plans ≤ moved_limit

-- a send and the receive of its channel have the same number of slots
abbrev pub HasEqualLengths : List Plan → Type 0
HasEqualLengths plans =
    (m x : OpId) → AreOfOneChannel plans m x → length (slots plans m) ≡ length (slots plans x)

-- after each note of a calc, at most 2^24 contributions are held
abbrev pub AddsAreLight : List Plan → List Act → Held → OpId → Option Kind → Type 0
AddsAreLight plans h held x (Some (Calc nanos)) = (n : ℕ) → weight_within plans h held x n ≤ weight_limit
AddsAreLight plans h held x _ = Unit {0}

-- at the start, and after each of these actions, at most 2^24 contributions are held
abbrev pub IsLight : List Plan → Store → List Act → Type 0
IsLight plans first [] = weight plans [] (held_after plans no_send first []) ≤ weight_limit
IsLight plans first (a ∷ h) =
    IsLight plans first h × AddsAreLight plans h (held_after plans no_send first h) a.op (kind_at plans a.op) × (weight plans (a ∷ h) (held_after plans no_send first (a ∷ h)) ≤ weight_limit)

-- each slot of each rank holds a value that passes the test
abbrev pub HoldsWanted : List Plan → (ℕ → ℕ → Value → Bool) → Store → Type 0
HoldsWanted plans wanted store = (rank slot : ℕ) → rank < length plans → wanted rank slot (store rank slot) ≡ true

pub record IsCertified (plans : List Plan) (first : Store) (wanted : ℕ → ℕ → Value → Bool) : Type 0 where
  pub small : IsSmall plans
  pub matched : IsMatched plans
  pub lengths : HasEqualLengths plans
  pub no_race : HasNoRace plans
  pub light : IsLight plans first matched.no_stall.walk
  pub right : HoldsWanted plans wanted (value plans no_send first matched.no_stall.walk)
