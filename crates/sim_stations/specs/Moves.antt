-- How often stations switch resources. A station switches only to a resource that is free later, and returns only if
-- the other has been held since.
use Rattle.std.specs.Prelude.{◌≡◌, ◌<◌, ◌≤◌, ◌+◌, ◌*◌, ℕ, Bool, true, false, List, ◌∷◌, Some, length, min, slice_get, slice_index, slice_index_or, slice_set}
use Rattle.std.specs.List.{sum_by}
use Rattle.sim_resources.specs.declared.pair.Pair.{Pair}
use Rattle.sim_stations.specs.Stations.{DoExist}

abbrev pub one_if : Bool → ℕ
one_if false = 0
one_if true = 1

-- A station has returned to its cpu this often, while its cpu and its side were held this often. It switched only to a
-- resource that was held after it had left, and may switch only to one that was held again.
pub record HasReturned (free holds : List ℕ) (p : Pair) (turned : Bool) (returns : ℕ) : Type 0 where
  pub to_cpu : returns ≤ slice_index holds p.cpu
  pub to_side : returns + one_if turned ≤ slice_index holds p.side
  pub may_go : turned ≡ false → slice_index free p.cpu < slice_index free p.side → returns + 1 ≤ slice_index holds p.side
  pub may_return : turned ≡ true → slice_index free p.side < slice_index free p.cpu → returns + 1 ≤ slice_index holds p.cpu

-- this holds for each station
pub record HaveReturned (pairs : List Pair) (turned : List Bool) (free holds returns : List ℕ) : Type 0 where
  pub each : length returns ≡ length pairs
  pub both : length turned ≡ length pairs
  pub resources : length holds ≡ length free
  pub exist : DoExist pairs (length free)
  pub station :
      (s : ℕ) (p : Pair)
      → slice_get pairs s ≡ Some p → HasReturned free holds p (slice_index_or turned s false) (slice_index returns s)

-- how often these stations have switched in all: twice for each return, and once more if they are now at their side
abbrev pub changes : List Bool → List ℕ → ℕ
changes (b ∷ turned) (n ∷ returns) = 2 * n + one_if b + changes turned returns
changes _ _ = 0

-- stations have switched, which is counted
pub record HaveMoved (pairs : List Pair) (free holds : List ℕ) (old new : List Bool) (returns : List ℕ) (before after : ℕ) : Type 0 where
  pub now : List ℕ
  pub have : HaveReturned pairs new free holds now
  pub counted : after + changes old returns ≡ before + changes new now

-- each resource of a pair was held once more
abbrev pub held_once_more : List ℕ → Pair → List ℕ
held_once_more holds p =
    slice_set (slice_set holds p.cpu (slice_index holds p.cpu + 1)) p.side (slice_index holds p.side + 1)

-- once per station, plus twice the lesser number of holds of its two resources
abbrev pub most_changes : List ℕ → List Pair → ℕ
most_changes holds pairs = sum_by (λ (p : Pair). 1 + 2 * min (slice_index holds p.cpu) (slice_index holds p.side)) pairs

-- stations never switch more often
abbrev pub ChangesAreFew : Type 0
ChangesAreFew = (pairs : List Pair) (turned : List Bool) (free holds returns : List ℕ) → HaveReturned pairs turned free holds returns → changes turned returns ≤ most_changes holds pairs
