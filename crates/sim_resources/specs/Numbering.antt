-- The numbers of the stations of a schedule, and of their resources.
use Rattle.std.specs.Prelude.{ℕ, ◌≡◌, ◌≢◌, ◌≤◌, ◌<◌, ◌+◌, ◌*◌, ◌++◌, All, List, length, Option, Some, None, get_or, nat_eq, slice_get, slice_index}
use Rattle.indexmap.specs.IndexMap as hashed
use Rattle.goal_limits.specs.declared.limits.TheConstants.{MAX_OPS}
use Rattle.goal_graph.specs.declared.action.OpId.{OpId}
use Rattle.goal_graph.specs.declared.plan.Op.{Op}
use Rattle.goal_graph.specs.Schedule.{Plan, op_at, operations}
use Rattle.sim_resources.specs.declared.pair.Pair.{Pair}
use Rattle.sim_resources.specs.declared.station.Station.{Station}
use Rattle.sim_resources.specs.declared.station.Latest.{Latest}
use Rattle.sim_resources.specs.declared.station.Places.{Places}
use Rattle.sim_resources.specs.declared.station.Places.TheVariants.{Table, Map}
use Rattle.sim_resources.specs.declared.station.StationNumbers.{StationNumbers}
use Rattle.sim_resources.specs.Stations.{station_of, cpu_alone, side_alone, stations_among, resources_among}

-- the place where a rank keeps the number of a station
abbrev pub cpu_place : Option ℕ → ℕ
cpu_place None = 0
cpu_place (Some c) = 1 + c

abbrev pub side_place : Option ℕ → Option ℕ → ℕ
side_place None None = 0
side_place (Some n) _ = 1 + n
side_place None (Some n) = 257 + n

abbrev pub place : Station → ℕ
place s = 513 * cpu_place s.cpu + side_place s.sends s.receives

-- at most one side, and numbers below 256
abbrev pub IsByte : Option ℕ → Type 0
IsByte None = Unit {0}
IsByte (Some n) = n < 256

abbrev pub IsOneSide : Option ℕ → Option ℕ → Type 0
IsOneSide None r = IsByte r
IsOneSide (Some n) None = n < 256
IsOneSide (Some m) (Some n) = ⊥

pub record IsPlain (s : Station) : Type 0 where
  pub cpu : IsByte s.cpu
  pub side : IsOneSide s.sends s.receives

-- no station is of a later rank
abbrev pub IsNotAfter : List Station → ℕ → Type 0
IsNotAfter seen rank = (j : ℕ) (s : Station) → slice_get seen j ≡ Some s → s.rank ≤ rank

-- no station occurs twice
abbrev pub AreOnce : List Station → Type 0
AreOnce seen = (i j : ℕ) (s : Station) → slice_get seen i ≡ Some s → slice_get seen j ≡ Some s → i ≡ j

-- the station has not occurred
abbrev pub IsNew : List Station → Station → Type 0
IsNew seen station = (i : ℕ) → slice_get seen i ≢ Some station

-- the latest number of a place
abbrev pub latest_at : Places → ℕ → Option Latest
latest_at (Table table) n = get_or table.items n None
latest_at (Map map) n = hashed.get nat_eq map n

-- the station that has the latest number of its place
pub record IsTold (seen : List Station) (n : ℕ) (l : Latest) : Type 0 where
  pub station : Station
  pub is : slice_get seen l.number ≡ Some station
  pub rank : station.rank ≡ l.rank
  pub at : place station ≡ n

-- each place has a station's number, and each station of the last rank has its number at its place
pub record ArePlaced (seen : List Station) (latest : ℕ → Option Latest) : Type 0 where
  pub plain : (i : ℕ) (s : Station) → slice_get seen i ≡ Some s → IsPlain s
  pub told : (n : ℕ) (l : Latest) → latest n ≡ Some l → IsTold seen n l
  pub placed : (i : ℕ) (s : Station) → slice_get seen i ≡ Some s → IsNotAfter seen s.rank → latest (place s) ≡ Some (record { rank = s.rank; number = i })
  pub once : AreOnce seen

-- the station has this number in the list `after`, which is `before` with the station if that was new
pub record HasNumber (before after : List Station) (station : Station) (number : ℕ) : Type 0 where
  pub more : List Station
  pub grown : after ≡ before ++ more
  pub by_one : length more ≤ 1
  pub is : slice_get after number ≡ Some station
  pub of_it : (i : ℕ) (s : Station) → slice_get more i ≡ Some s → s ≡ station

-- the resources of a station have the numbers p
pub record HasPair (before after : List Station) (station : Station) (p : Pair) : Type 0 where
  pub between : List Station
  pub cpu : HasNumber before between (cpu_alone station) p.cpu
  pub side : HasNumber between after (side_alone station) p.side

-- Stations and resources, each once, and the numbers of the two resources of each station.
pub record IsNumbering (stations resources : List Station) (pairs : List Pair) : Type 0 where
  pub each : length pairs ≡ length stations
  pub few : length resources ≤ 2 * length stations
  pub once : AreOnce stations
  pub resources_once : AreOnce resources
  pub listed : resources ≡ resources_among stations
  pub cpus : (n : ℕ) (s : Station) (p : Pair) → slice_get stations n ≡ Some s → slice_get pairs n ≡ Some p → slice_get resources p.cpu ≡ Some (cpu_alone s)
  pub sides : (n : ℕ) (s : Station) (p : Pair) → slice_get stations n ≡ Some s → slice_get pairs n ≡ Some p → slice_get resources p.side ≡ Some (side_alone s)
  pub of_stations : (rank : ℕ) → IsNotAfter stations rank → IsNotAfter resources rank

-- Each operation has the number of its station, and each station one number.
pub record AreStationed (plans : List Plan) (numbers : List ℕ) (pairs : List Pair) : Type 0 where
  pub stations : List Station
  pub resources : List Station
  pub numbering : IsNumbering stations resources pairs
  pub listed : stations ≡ stations_among plans (operations plans)
  pub each : length numbers ≡ length (operations plans)
  pub are : (i : ℕ) (x : OpId) (o : Op) → slice_get (operations plans) i ≡ Some x → op_at plans x ≡ Some o → slice_get stations (slice_index numbers i) ≡ Some (station_of x o)

-- the resources of the pairs are below `resources`
abbrev pub DoExist : List Pair → ℕ → Type 0
DoExist pairs resources = (station : ℕ) (p : Pair) → slice_get pairs station ≡ Some p → (p.cpu < resources) × (p.side < resources)

-- These are the numbers of the stations of a schedule, and of their resources.
pub record AreNumbered (plans : List Plan) (s : StationNumbers) : Type 0 where
  pub each : length s.numbers.items ≡ length (operations plans)
  pub few : length s.numbers.items ≤ MAX_OPS
  pub few_stations : length s.pairs.items ≤ length s.numbers.items
  pub few_resources : s.resources ≤ 2 * length s.numbers.items
  pub within : All (λ number. number < length s.pairs.items) s.numbers.items
  pub exist : DoExist s.pairs.items s.resources
  pub stationed : AreStationed plans s.numbers.items s.pairs.items
