-- How many contributions are held if no operation adds.
use Rattle.std.specs.Prelude.{ℕ, ◌+◌, ◌≤◌, ◌≡◌, Bool, List, [], length, All}
use Rattle.std.specs.List.{sum_by}
use Rattle.goal_graph.specs.declared.action.OpId.{OpId}
use Rattle.goal_graph.specs.Schedule.{Plan, operations}
use Rattle.goal_graph.specs.Action.{Act}
use Rattle.goal_blocks.specs.Slots.{adds}
use Rattle.goal_blocks.specs.Values.{Value, Store, Held, held_after}
use Rattle.goal_blocks.specs.Weight.{stored, weight}
use Rattle.goal_blocks.specs.Certification.{moved_count}

-- no operation adds
abbrev pub AddsNothing : List Plan → Type 0
AddsNothing plans = (x : OpId) → adds plans x ≡ []

-- a value of at most one contribution
abbrev pub IsSingle : Value → Type 0
IsSingle v = length v ≤ 1

-- each value, in a slot or read by a send, has at most one contribution
pub record HoldsSingles (held : Held) : Type 0 where
  pub slots : (rank slot : ℕ) → IsSingle (held.store rank slot)
  pub payloads : (m : OpId) → All IsSingle (held.payload m)

-- the contributions in the slots of all ranks and in all that sends have read, whether taken or not
unfoldable pub held_and_read : List Plan → Held → ℕ
held_and_read plans held =
    stored (length plans) held.store + sum_by (λ m. sum_by (λ (v : Value). length v) (held.payload m)) (operations plans)

-- the number of slots that all moves name, each counted as often as it is named
unfoldable pub moved_slots : List Plan → ℕ
moved_slots plans = sum_by (λ (p : Plan). sum_by moved_count p.notes) plans

-- The laws hold for all schedules in which no operation adds, if each slot has at most one contribution at the start:
-- after any actions, so in each prefix of each interleaving, whichever sends are eager and whatever the channels are.
-- Functions `laws_of_..` ensure each of them.

-- each value has at most one contribution
abbrev pub ValuesStaySingle : Type 0
ValuesStaySingle = (plans : List Plan) (first : Store) (eager : OpId → Bool) (h : List Act) → AddsNothing plans → ((rank slot : ℕ) → IsSingle (first rank slot)) → HoldsSingles (held_after plans eager first h)

-- so there are at most as many as at the start, plus one for each slot that a move names
abbrev pub HeldStaysFew : Type 0
HeldStaysFew = (plans : List Plan) (first : Store) (eager : OpId → Bool) (h : List Act) → AddsNothing plans → ((rank slot : ℕ) → IsSingle (first rank slot)) → (held_and_read plans (held_after plans eager first h) ≤ stored (length plans) first + moved_slots plans) × (weight plans h (held_after plans eager first h) ≤ stored (length plans) first + moved_slots plans)
