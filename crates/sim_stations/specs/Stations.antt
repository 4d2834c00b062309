-- A queue whose slots wait with their stations. The slots of a station need the same two resources, and their events
-- are not before the times at which these are free.
use Rattle.std.specs.Prelude.{◌≡◌, ◌<◌, ◌≤◌, ◌+◌, ◌*◌, ℕ, Bool, List, Option, Some, length, max, slice_get, slice_index, slice_index_or, slice_set, if◌then◌else◌}
use Rattle.std.specs.List.{sum_by}
pub use Rattle.goal_graph.specs.Action.{holds_cpu}
use Rattle.goal_graph.specs.declared.action.OpId.{OpId}
use Rattle.goal_graph.specs.declared.action.Timed.{Timed}
pub use Rattle.sim_queue.specs.Item.{at_time}
use Rattle.sim_queue.specs.Map.{key_at}
use Rattle.sim_resources.specs.declared.pair.Pair.{Pair}
pub use Rattle.sim_resources.specs.ByNumber.{HasTimes}
pub use Rattle.sim_resources.specs.Numbering.{DoExist}
use Rattle.sim_stations.specs.declared.key_place.KeyPlace.{KeyPlace}
use Rattle.sim_stations.specs.declared.key_place.KeyPlace.TheVariants.{Nowhere, Ahead, Waiting}

-- For each slot its key or None, its station, and the place of its key; for each station its two resources, and whether
-- its waiting slots wait at the second; when each resource is free; and the slot that was found to have the least key.
pub record Stationed : Type 0 where
  pub keys : List (Option Timed)
  pub stations : List ℕ
  pub stands : List KeyPlace
  pub pairs : List Pair
  pub turned : List Bool
  pub free : List ℕ
  pub found : Option ℕ

-- when both resources are free
abbrev pub both_free : List ℕ → Pair → ℕ
both_free free p = max (slice_index free p.cpu) (slice_index free p.side)

-- the earliest time of an event that needs these resources, if it waits for them
abbrev pub earliest : List ℕ → Pair → Timed → ℕ
earliest free p k = if holds_cpu k.class then max k.time (both_free free p) else k.time

abbrev pub when_free : List ℕ → Pair → Timed → Timed
when_free free p k = at_time (earliest free p k) k

-- the resources of a station, and those of a slot
abbrev pub pair_at : List Pair → ℕ → Pair
pair_at pairs station = slice_index_or pairs station (record { cpu = 0; side = 0 })

abbrev pub pair_of : Stationed → ℕ → Pair
pair_of q slot = pair_at q.pairs (slice_index q.stations slot)

-- the resources of a pair are free at these times
abbrev pub held : List ℕ → Pair → ℕ → ℕ → List ℕ
held free p cpu side = slice_set (slice_set free p.cpu cpu) p.side side

-- these times are not earlier than before
pub record IsLater (free : List ℕ) (p : Pair) (cpu side : ℕ) : Type 0 where
  pub cpu_later : slice_index free p.cpu ≤ cpu
  pub side_later : slice_index (slice_set free p.cpu cpu) p.side ≤ side

-- `times` has a time for both resources of a pair
pub record AreKnown (times : List ℕ) (p : Pair) : Type 0 where
  pub has_cpu : p.cpu < length times
  pub has_side : p.side < length times

-- it has those at which they are free
abbrev pub AreTimesOf : List ℕ → List ℕ → Pair → Type 0
AreTimesOf times free p = HasTimes times p (slice_index free p.cpu) (slice_index free p.side)

-- the resources of a pair are free at the times that `times` has for them, which are not earlier than before
abbrev pub held_by : List ℕ → Pair → List ℕ → List ℕ
held_by free p times = held free p (slice_index times p.cpu) (slice_index times p.side)

abbrev pub IsLaterBy : List ℕ → Pair → List ℕ → Type 0
IsLaterBy free p times = IsLater free p (slice_index times p.cpu) (slice_index times p.side)

-- each key is that of the operation of its slot
abbrev pub AreOfSlots : List OpId → List (Option Timed) → Type 0
AreOfSlots operations keys = (slot : ℕ) (k : Timed) → key_at keys slot ≡ Some k → slice_get operations slot ≡ Some k.op

-- the number of keys at their own times
abbrev pub one_ahead : KeyPlace → ℕ
one_ahead Nowhere = 0
one_ahead Ahead = 1
one_ahead Waiting = 0

abbrev pub count_ahead : List KeyPlace → ℕ
count_ahead stands = sum_by one_ahead stands

-- the most comparisons, with 2^k slots, if these keys begin to wait, and stations switch this often
abbrev pub cost_of_waiting : ℕ → List KeyPlace → ℕ
cost_of_waiting k stands = count_ahead stands * (8 * k + 12)

abbrev pub cost_of_moves : ℕ → ℕ → ℕ
cost_of_moves k moves = moves * (8 * k + 15)
