-- The comparisons of a run: the cost of each key, and of each switch of a station.
use Rattle.std.specs.Prelude.{ℕ, ◌+◌, ◌*◌, Option, Some, None, length}
use Rattle.std.specs.List.{sum_by, range_with_len}
use Rattle.goal_graph.specs.declared.action.Timed.{Timed}
use Rattle.sim_queue.specs.Map.{key_at}
use Rattle.sim_stations.specs.Stations.{Stationed}

-- the cost of putting a key, once it is in a map of 2^k slots
abbrev pub cost_of_key : ℕ → Option Timed → ℕ
cost_of_key k None = 0
cost_of_key k (Some e) = 10 * k + 16

-- the cost of the keys in a queue
abbrev pub spent : ℕ → Stationed → ℕ
spent k queue = sum_by (λ i. cost_of_key k (key_at queue.keys i)) (range_with_len 0 (length queue.keys))

-- how many actions an optional action is
abbrev pub count_of : Option Timed → ℕ
count_of None = 0
count_of (Some a) = 1

-- the cost of a search that finds nothing more
abbrev pub last_look : Option Timed → ℕ
last_look None = 3
last_look (Some a) = 0
