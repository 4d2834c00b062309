-- What operations wait for before they work: the station of each, and the two resources of a station.
use Rattle.std.specs.Prelude.{◌&&◌, ◌==◌, ◌++◌, Bool, List, [], ◌∷◌, Option, Some, None, ℕ, if◌then◌else◌}
use Rattle.std.specs.List.{fold, list_any}
use Rattle.goal_graph.specs.declared.action.OpId.{OpId}
use Rattle.goal_graph.specs.declared.plan.Kind.{Kind}
use Rattle.goal_graph.specs.declared.plan.Kind.TheVariants.{Calc, Send, Recv}
use Rattle.goal_graph.specs.declared.plan.Op.{Op}
use Rattle.goal_graph.specs.Schedule.{Plan, op_at}
pub use Rattle.goal_graph.specs.Choices.{same_choice}
use Rattle.sim_resources.specs.declared.station.Station.{Station}

-- the station of an operation: the cpu, and the side of a NIC, that it waits for before it works
abbrev pub station_by : OpId → Op → Kind → Station
station_by x o (Calc nanos) = record { rank = x.rank; cpu = Some o.cpu; sends = None; receives = None }
station_by x o (Send bytes to tag) = record { rank = x.rank; cpu = Some o.cpu; sends = Some o.nic; receives = None }
station_by x o (Recv room from tag) = record { rank = x.rank; cpu = Some o.cpu; sends = None; receives = Some o.nic }

-- the station of the operation x
abbrev pub station_of : OpId → Op → Station
station_of x o = station_by x o o.kind

-- The two resources of a station: its cpu alone, and its side alone, or its cpu again where it needs no side.
abbrev pub cpu_alone : Station → Station
cpu_alone s = record { rank = s.rank; cpu = s.cpu; sends = None; receives = None }

abbrev pub side_by : Station → Option ℕ → Option ℕ → Station
side_by s None None = s
side_by s (Some n) r = record { rank = s.rank; cpu = None; sends = Some n; receives = r }
side_by s None (Some n) = record { rank = s.rank; cpu = None; sends = None; receives = Some n }

abbrev pub side_alone : Station → Station
side_alone s = side_by s s.sends s.receives

abbrev pub same_station : Station → Station → Bool
same_station p q =
    (p.rank == q.rank) && (same_choice p.cpu q.cpu && (same_choice p.sends q.sends && same_choice p.receives q.receives))

-- the station of an operation
abbrev pub station_as : OpId → Option Op → Station
station_as x None = record { rank = x.rank; cpu = None; sends = None; receives = None }
station_as x (Some o) = station_of x o

-- adds a station to a list, unless it is listed already
abbrev pub with_station : List Station → Station → List Station
with_station stations s = if list_any (same_station s) stations then stations else stations ++ s ∷ []

-- the stations of these operations, each once
abbrev pub stations_among : List Plan → List OpId → List Station
stations_among plans ops = fold (λ stations x. with_station stations (station_as x (op_at plans x))) [] ops

-- the resources of these stations, each once
abbrev pub resources_among : List Station → List Station
resources_among stations = fold (λ resources s. with_station (with_station resources (cpu_alone s)) (side_alone s)) [] stations
