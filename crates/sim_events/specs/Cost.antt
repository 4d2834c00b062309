-- The cost of a run, as a function of the schedule and the history: a bound on the comparisons of its queue, and the number
-- of needs that its actions examine.
use Rattle.std.specs.Prelude.{ℕ, ◌+◌, ◌*◌, ◌&&◌, ◌||◌, min, Bool, false, List, length, count_by, Option, Some, None}
use Rattle.std.specs.List.{sum_by}
use Rattle.goal_graph.specs.declared.action.Timed.{Timed}
use Rattle.goal_graph.specs.declared.plan.Op.{Op}
use Rattle.goal_graph.specs.Schedule.{Plan, op_at, operations}
use Rattle.sim_stations.specs.Stations.{holds_cpu}
use Rattle.sim_resources.specs.declared.station.Station.{Station}
pub use Rattle.goal_graph.specs.Choices.{same_choice}
pub use Rattle.sim_resources.specs.Stations.{station_by, station_of, cpu_alone, side_by, side_alone, same_station, station_as, with_station, stations_among}
pub use Rattle.sim_state.specs.Awaited.{given_by}

-- An action that waits for free resources holds two: the cpu of its operation and the side of its NIC. Where it needs no
-- side, it holds the cpu alone.
abbrev pub holds_as : Station → Timed → Option Op → Bool
holds_as resource a None = false
holds_as resource a (Some o) =
    holds_cpu a.class && (same_station (cpu_alone (station_of a.op o)) resource || same_station (side_alone (station_of a.op o)) resource)

module _ (plans : List Plan) where
  -- how many actions of a history held a resource
  abbrev pub times_held : List Timed → Station → ℕ
  times_held h resource = count_by (λ a. holds_as resource a (op_at plans a.op)) h

  -- each station once, and twice the lesser of how often its cpu and its side were held
  abbrev pub most_moves : List Timed → ℕ
  most_moves h =
      sum_by (λ s. 1 + 2 * min (times_held h (cpu_alone s)) (times_held h (side_alone s))) (stations_among plans (operations plans))

-- the comparisons for `actions` actions and `moves` changes of place: a key is put, found and taken out
abbrev pub cost_of_actions : ℕ → ℕ → ℕ → ℕ
cost_of_actions k actions moves = actions * (18 * k + 29) + moves * (8 * k + 15)

-- a bound on the comparisons for the first keys of a schedule, among 2^k operations
abbrev pub cost_of_start : ℕ → List Plan → ℕ
cost_of_start k plans = length (operations plans) * (10 * k + 16)

-- a bound on the comparisons of a run, among 2^k operations: for its actions, the changes of place that they allow, and the
-- end
abbrev pub cost_of_run : ℕ → List Plan → List Timed → ℕ
cost_of_run k plans h = cost_of_actions k (length h) (most_moves plans h) + 3

-- the number of needs that the actions of a history examine: each action those that its start or end may satisfy
abbrev pub reads_of_run : List Plan → List Timed → ℕ
reads_of_run plans h = sum_by (given_by plans) h
