-- What the code keeps: `ahead`, keys at their own times; `waiting`, keys that wait, with time 0; and the least waiting
-- key of each station, in the row where the station waits.
use Rattle.std.specs.Prelude.{◌≡◌, ◌≢◌, ◌⊎◌, ◌<◌, ◌≤◌, ◌+◌, ◌*◌, ℕ, Bool, true, false, not, List, [], ◌∷◌, Option, Some, None, length, nat_lt, slice_get, slice_index, slice_index_or, slice_set}
use Rattle.std.specs.Option.{option_map}
use Rattle.goal_graph.specs.declared.action.Timed.{Timed}
use Rattle.sim_order.specs.Events.{event_before}
use Rattle.sim_queue.specs.Map.{either, key_at, IsSoleLeast}
use Rattle.sim_queue.specs.Groups.{Grouped, IsLeastOf, IsSoleLeastOf}
use Rattle.sim_resources.specs.declared.pair.Pair.{Pair}
use Rattle.sim_stations.specs.declared.key_place.KeyPlace.{KeyPlace}
use Rattle.sim_stations.specs.declared.key_place.KeyPlace.TheVariants.{Nowhere, Ahead, Waiting}
use Rattle.sim_stations.specs.Stations.{holds_cpu, when_free, pair_at, held}
use Rattle.sim_stations.specs.Moves.{one_if}
use Rattle.sim_stations.specs.Rows.{Rowed, IsHead, side_of, shown}

-- the keys of the slots, at the earliest times that their stations allow
unfoldable pub seen_keys : List ℕ → List Pair → List (Option Timed) → List (Option Timed) → List ℕ → List (Option Timed)
seen_keys free pairs (a ∷ ahead) (w ∷ waiting) (s ∷ stations) =
    option_map (when_free free (pair_at pairs s)) (either a w) ∷ seen_keys free pairs ahead waiting stations
seen_keys free pairs _ _ _ = []

-- each key is in one of the two maps, and the slots belong to these stations
pub record AreMapped (ahead : List (Option Timed)) (waiting : Grouped Timed) (pairs : List Pair) : Type 0 where
  pub each : length ahead ≡ length waiting.keys
  pub grouped : length waiting.groups ≡ length waiting.keys
  pub within : (slot station : ℕ) → slice_get waiting.groups slot ≡ Some station → station < length pairs
  pub apart : (slot : ℕ) (k : Timed) → key_at ahead slot ≡ Some k → key_at waiting.keys slot ≡ None
  pub waits : (slot : ℕ) (k : Timed) → key_at waiting.keys slot ≡ Some k → (k.time ≡ 0) × (holds_cpu k.class ≡ true)

-- each station has the least key of its waiting slots
abbrev pub AreShown : Grouped Timed → List (Option Timed) → ℕ → Type 0
AreShown waiting keys stations = (station : ℕ) → station < stations → IsHead waiting station 0 (key_at keys station)

-- a key is before every waiting key of a station; or some key of the station is before it or equal
abbrev pub IsBeforeAll : Grouped Timed → ℕ → Timed → Type 0
IsBeforeAll waiting station key =
    (slot : ℕ) (k : Timed) → slice_get waiting.groups slot ≡ Some station → key_at waiting.keys slot ≡ Some k → event_before k key ≡ false

pub record HasOneBefore (waiting : Grouped Timed) (station : ℕ) (key : Timed) : Type 0 where
  pub first : Timed
  pub least : IsLeastOf event_before waiting station first
  pub before : event_before key first ≡ false

-- the place of a slot's key, from its keys in the two maps
abbrev pub stand_of : Option Timed → Option Timed → KeyPlace
stand_of (Some _) waiting = Ahead
stand_of None (Some _) = Waiting
stand_of None None = Nowhere

-- a slot with this place has a key
abbrev pub has_key : KeyPlace → Bool
has_key Nowhere = false
has_key Ahead = true
has_key Waiting = true

-- a slot with this place waits
abbrev pub is_waiting : KeyPlace → Bool
is_waiting Nowhere = false
is_waiting Ahead = false
is_waiting Waiting = true

-- the place of each slot's key is known
pub record AreStands (stands : List KeyPlace) (ahead : List (Option Timed)) (waiting : Grouped Timed) : Type 0 where
  pub each : length stands ≡ length waiting.keys
  pub tells : (slot : ℕ) → slice_index_or stands slot Nowhere ≡ stand_of (key_at ahead slot) (key_at waiting.keys slot)

-- the whole invariant; there are not too many stations and resources
pub record IsKept (ahead : List (Option Timed)) (waiting : Grouped Timed) (rows : Rowed) (stands : List KeyPlace) : Type 0 where
  pub mapped : AreMapped ahead waiting rows.pairs
  pub shown : AreShown waiting rows.keys (length rows.pairs)
  pub stood : AreStands stands ahead waiting
  pub keyed : length rows.keys ≡ length rows.pairs
  pub placed : length rows.turned ≡ length rows.pairs
  pub few_stations : length rows.pairs ≤ length waiting.keys
  pub few_resources : length rows.free ≤ 2 * length waiting.keys

-- the keys of the slots, as contracts see them
abbrev pub seen_of : List (Option Timed) → Grouped Timed → Rowed → List (Option Timed)
seen_of ahead waiting rows = seen_keys rows.free rows.pairs ahead waiting.keys waiting.groups

-- the slot found is the first of those ahead, or of those that wait with its station
abbrev pub IsFound : List (Option Timed) → Grouped Timed → Option ℕ → Type 0
IsFound ahead waiting None = Unit {0}
IsFound ahead waiting (Some slot) = IsSoleLeast event_before ahead slot ⊎ IsSoleLeastOf event_before waiting slot

-- a slot has left, and the resources of its station are now free at these times
pub record IsDeparted (ahead : List (Option Timed)) (waiting : Grouped Timed) (rows : Rowed) (stands : List KeyPlace) (slot cpu side : ℕ) (new_ahead : List (Option Timed)) (new_waiting : Grouped Timed) (new_rows : Rowed) : Type 0 where
  pub kept : IsKept new_ahead new_waiting new_rows (slice_set stands slot Nowhere)
  pub each : length (seen_of new_ahead new_waiting new_rows) ≡ length (seen_of ahead waiting rows)
  pub gone : key_at (seen_of new_ahead new_waiting new_rows) slot ≡ None
  pub raised :
      (one : ℕ) → one ≢ slot
      → key_at (seen_of new_ahead new_waiting new_rows) one
      ≡ option_map (when_free new_rows.free (pair_at rows.pairs (slice_index waiting.groups one))) (key_at (seen_of ahead waiting rows) one)
  pub groups : new_waiting.groups ≡ waiting.groups
  pub pairs : new_rows.pairs ≡ rows.pairs
  pub turned : new_rows.turned ≡ rows.turned
  pub free : new_rows.free ≡ held rows.free (pair_at rows.pairs (slice_index waiting.groups slot)) cpu side

-- a key that some slot has ahead, or that some station shows
abbrev pub IsSeenFirst : List (Option Timed) → Rowed → Timed → Bool → Type 0
IsSeenFirst ahead rows key true = (slot : ℕ) × (key_at ahead slot ≡ Some key)
IsSeenFirst ahead rows key false = (station : ℕ) × (shown rows station ≡ Some key)

-- no key ahead and no key shown by a station is before it
pub record IsFirstOfAll (ahead : List (Option Timed)) (rows : Rowed) (key : Timed) (is_ahead : Bool) : Type 0 where
  pub seen : IsSeenFirst ahead rows key is_ahead
  pub least_ahead : (slot : ℕ) (k : Timed) → key_at ahead slot ≡ Some k → event_before k key ≡ false
  pub least_shown : (station : ℕ) (k : Timed) → shown rows station ≡ Some k → event_before k key ≡ false

-- the number of stations that wait at a resource that is free before their other one
abbrev pub is_late : List ℕ → Pair → Bool → Bool
is_late free p turned = nat_lt (slice_index free (side_of p turned)) (slice_index free (side_of p (not turned)))

abbrev pub count_late : List ℕ → List Pair → List Bool → ℕ
count_late free (p ∷ pairs) (b ∷ turned) = one_if (is_late free p b) + count_late free pairs turned
count_late free _ _ = 0
