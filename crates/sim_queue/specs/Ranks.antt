-- A heap for each rank, and a heap of ranks with the least key of each.
use Rattle.std.specs.Prelude.{◌≡◌, ◌+◌, ◌<◌, ℕ, Bool, List, Option, Some, None, length, map, slice_get, slice_index, slice_set}
use Rattle.goal_graph.specs.declared.action.OpId.{OpId}
use Rattle.sim_queue.specs.declared.home.PlaceInGroup.{PlaceInGroup}
use Rattle.sim_queue.specs.Map.{key_at, IsEmptyMap, IsLeast}
use Rattle.sim_queue.specs.Groups.{IsHoused, heap_at, key_of_home}
use Rattle.sim_queue.specs.Ranked.{Ranked}

-- the home of an operation: the heap of its rank, at its number
abbrev pub home_of : OpId → PlaceInGroup
home_of x = record { group = x.rank; place = x.op }

module _ {K : Type 0} where
  abbrev pub ranked : List PlaceInGroup → List (List (Option K)) → Ranked K
  ranked homes heaps = record { keys = map (key_of_home heaps) homes; sizes = map (λ (heap : List (Option K)). length heap) heaps }

  -- the head of a rank: the least key of its heap, or None if that is empty
  abbrev pub IsHeadOf : (K → K → Bool) → List (Option K) → Option K → Type 0
  IsHeadOf before heap None = IsEmptyMap heap
  IsHeadOf before heap (Some key) = (place : ℕ) × IsLeast before heap place key

  -- the head of a rank is updated
  pub record IsTold (before : K → K → Bool) (heap : List (Option K)) (old new : List (Option K)) (rank : ℕ) : Type 0 where
    pub head : Option K
    pub put : new ≡ slice_set old rank head
    pub is_head : IsHeadOf before heap head

  -- Each slot has its home in the heap of its rank, whose slots begin at the rank's start, and each rank has its head.
  pub record IsRanked (before : K → K → Bool) (homes : List PlaceInGroup) (starts : List ℕ) (heaps : List (List (Option K))) (heads : List (Option K)) : Type 0 where
    pub housed : IsHoused homes heaps
    pub started : length starts ≡ length heaps
    pub each : length heads ≡ length heaps
    pub found : (slot : ℕ) (home : PlaceInGroup) → slice_get homes slot ≡ Some home → slot ≡ slice_index starts home.group + home.place
    pub headed : (rank : ℕ) → rank < length heaps → IsHeadOf before (heap_at heaps rank) (key_at heads rank)
