-- The capacity of each list.
use Rattle.std.specs.Prelude.{ℕ, ◌≡◌, ◌<◌, ◌+◌, false, List, [], length, Option, Some, take, slice_get, count_by, if◌then◌else◌}
use Rattle.std.specs.List.{list_any}
use Rattle.goal_graph.specs.declared.action.OpId.{OpId}
use Rattle.goal_graph.specs.Schedule.{Plan}
use Rattle.sim_match.specs.declared.pattern.Pattern.{Pattern}
use Rattle.sim_match.specs.declared.capacities.Capacity.{Capacity}
use Rattle.sim_match.specs.declared.capacities.Side.{Side}
use Rattle.sim_match.specs.declared.capacities.Side.TheVariants.{Receives, Sends}
use Rattle.sim_match.specs.MatchLists.{MatchList}
use Rattle.sim_match.specs.Patterns.{same_number, in_list, for_list}

-- the room that a list needs for a side
abbrev pub room_of : Side → Capacity → ℕ
room_of Receives c = c.receives
room_of Sends c = c.sends

-- an empty list with this room
abbrev pub empty_list : Side → Capacity → MatchList
empty_list side c = record { entries = []; head = 0; room = room_of side c }

-- no number occurs twice
abbrev pub AreOnce : List (Option ℕ) → Type 0
AreOnce numbers = (k i : ℕ) → slice_get numbers k ≡ Some (Some i) → list_any (same_number (Some i)) (take k numbers) ≡ false

-- each number is below the bound
abbrev pub AreWithin : List (Option ℕ) → ℕ → Type 0
AreWithin numbers bound = (k i : ℕ) → slice_get numbers k ≡ Some (Some i) → i < bound

-- another send is counted for each of the lists with these numbers
pub record IsCounted (numbers : List (Option ℕ)) (capacities : List Capacity) (list : ℕ) (capacity : Capacity) : Type 0 where
  pub before : Capacity
  pub was : slice_get capacities list ≡ Some before
  pub receives : capacity.receives ≡ before.receives
  pub sends : capacity.sends ≡ before.sends + (if list_any (same_number (Some list)) numbers then 1 else 0)

pub record AreCounted (numbers : List (Option ℕ)) (old new : List Capacity) : Type 0 where
  pub one_each : length new ≡ length old
  pub each : (list : ℕ) (capacity : Capacity) → slice_get new list ≡ Some capacity → IsCounted numbers old list capacity

module _ (plans : List Plan) (keys : List Pattern) where
  -- the list has this number of receives among these operations, and this number of sends for it
  pub record IsCapacity (ops : List OpId) (list : ℕ) (capacity : Capacity) : Type 0 where
    pub receives : capacity.receives ≡ count_by (in_list plans keys list) ops
    pub sends : capacity.sends ≡ count_by (for_list plans keys list) ops

  -- the capacity of each list
  pub record AreCapacities (ops : List OpId) (capacities : List Capacity) : Type 0 where
    pub one_each : length capacities ≡ length keys
    pub each : (list : ℕ) (capacity : Capacity) → slice_get capacities list ≡ Some capacity → IsCapacity ops list capacity
