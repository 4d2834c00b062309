-- Stations in rows: each waits in the row of one of its two resources.
use Rattle.std.specs.Prelude.{◌≡◌, ◌≢◌, ◌<◌, ◌+◌, ◌*◌, ◌^◌, ℕ, Bool, true, false, not, List, [], ◌∷◌, Option, Some, None, length, slice_index, slice_index_or}
use Rattle.std.specs.Option.{option_map}
use Rattle.goal_graph.specs.declared.action.Timed.{Timed}
use Rattle.sim_order.specs.Events.{event_before}
use Rattle.sim_queue.specs.Map.{key_at}
use Rattle.sim_queue.specs.Groups.{Grouped, IsEmptyGroup, IsLeastOf}
use Rattle.sim_resources.specs.declared.pair.Pair.{Pair}
use Rattle.sim_stations.specs.Stations.{at_time, pair_at, DoExist}
use Rattle.sim_stations.specs.Moves.{one_if}

-- For each station its key or None, its two resources, and if it waits at the second; and when each resource is free.
pub record Rowed : Type 0 where
  pub keys : List (Option Timed)
  pub pairs : List Pair
  pub turned : List Bool
  pub free : List ℕ

-- the resources of all stations, one pair after another
abbrev pub sides : List Pair → List ℕ
sides [] = []
sides (p ∷ pairs) = p.cpu ∷ p.side ∷ sides pairs

-- the place of a station among them
abbrev pub place_in : ℕ → Bool → ℕ
place_in station turned = 2 * station + one_if turned

abbrev pub side_of : Pair → Bool → ℕ
side_of p false = p.cpu
side_of p true = p.side

-- the keys of the stations, from the entries at their places
unfoldable pub seen : List Bool → List (Option Timed) → List (Option Timed)
seen (false ∷ turned) (a ∷ b ∷ keys) = a ∷ seen turned keys
seen (true ∷ turned) (a ∷ b ∷ keys) = b ∷ seen turned keys
seen _ _ = []

-- whether a station waits at its side
abbrev pub turned_at : List Bool → ℕ → Bool
turned_at turned station = slice_index_or turned station false

-- the key of a station, at the time at which the resource is free at which it waits
abbrev pub shown : Rowed → ℕ → Option Timed
shown q station =
    option_map (at_time (slice_index q.free (side_of (pair_at q.pairs station) (turned_at q.turned station)))) (key_at q.keys station)

-- a station shows this key, and none shows one before it
pub record IsFirst (q : Rowed) (key : Timed) : Type 0 where
  pub station : ℕ
  pub has : shown q station ≡ Some key
  pub least : (one : ℕ) (k : Timed) → shown q one ≡ Some k → event_before k key ≡ false

-- the least of a group of slots, whose keys are at time 0, at another time
abbrev pub IsHead : Grouped Timed → ℕ → ℕ → Option Timed → Type 0
IsHead waiting group time None = IsEmptyGroup waiting group
IsHead waiting group time (Some k) = IsLeastOf event_before waiting group (at_time 0 k) × (k.time ≡ time)

-- the head of a resource is updated, at the time at which it is free; the others stay
pub record IsTold (rows : Grouped Timed) (free : List ℕ) (old new : List (Option Timed)) (resource : ℕ) : Type 0 where
  pub each : length new ≡ length old
  pub here : IsHead rows resource (slice_index free resource) (key_at new resource)
  pub others : (one : ℕ) → one ≢ resource → key_at new one ≡ key_at old one

-- the heads of both resources of a pair are updated
pub record AreBothTold (rows : Grouped Timed) (free : List ℕ) (old new : List (Option Timed)) (p : Pair) : Type 0 where
  pub each : length new ≡ length old
  pub cpu : IsHead rows p.cpu (slice_index free p.cpu) (key_at new p.cpu)
  pub side : IsHead rows p.side (slice_index free p.side) (key_at new p.side)
  pub others : (one : ℕ) → one ≢ p.cpu → one ≢ p.side → key_at new one ≡ key_at old one

-- the keys of stations are in the rows of their resources
pub record IsInRows (rows : Grouped Timed) (pairs : List Pair) (turned : List Bool) (free : List ℕ) : Type 0 where
  pub groups : rows.groups ≡ sides pairs
  pub each : length rows.keys ≡ 2 * length pairs
  pub both : length turned ≡ length pairs
  pub few : 2 * length pairs < 2 ^ 32
  pub exist : DoExist pairs (length free)
  pub elsewhere : (station : ℕ) → key_at rows.keys (place_in station (not (turned_at turned station))) ≡ None
  pub at_zero : (slot : ℕ) (k : Timed) → key_at rows.keys slot ≡ Some k → k.time ≡ 0

-- each resource has its head, at the time at which it is free
pub record AreHeads (rows : Grouped Timed) (heads : List (Option Timed)) (free : List ℕ) : Type 0 where
  pub each : length heads ≡ length free
  pub few : length free < 2 ^ 32
  pub headed : (resource : ℕ) → resource < length free → IsHead rows resource (slice_index free resource) (key_at heads resource)
