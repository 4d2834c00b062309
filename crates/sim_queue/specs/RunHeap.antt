-- A run, a queue of items in the order of their keys, together with a heap for other slots.
use Rattle.std.specs.Prelude.{◌≡◌, ℕ, ◌<◌, ◌≤◌, Bool, true, false, List, [], ◌∷◌, length, Option, Some, None, slice_get}
use Rattle.goal_limits.specs.declared.limits.TheConstants.{MAX_OPS}
use Rattle.sim_queue.specs.Item.{Item}
use Rattle.sim_queue.specs.Map.{either, key_at}
use Rattle.sim_queue.specs.TopHeap.{placed, AreApart}

module _ {K : Type 0} where
  -- what each slot has in one of two maps
  unfoldable pub joined : List (Option K) → List (Option K) → List (Option K)
  joined (a ∷ one) (b ∷ other) = either a b ∷ joined one other
  joined _ _ = []

  -- what each slot has in the run or the heap
  abbrev pub with_run : List (Item K) → List (Option K) → List (Option K)
  with_run run heap = joined (placed (length heap) run) heap

module _ {K : Type 0} (before : K → K → Bool) where
  -- no later item is before an earlier one
  abbrev pub AreInOrder : List (Item K) → Type 0
  AreInOrder run =
      (one other : ℕ) (x y : Item K) → one < other → slice_get run one ≡ Some x → slice_get run other ≡ Some y → before y.key x.key ≡ false

  -- the item is before no item of the run
  abbrev pub IsBehind : List (Item K) → Item K → Type 0
  IsBehind run x = (place : ℕ) (y : Item K) → slice_get run place ≡ Some y → before x.key y.key ≡ false

  -- no item of the run is before the item
  abbrev pub IsAhead : List (Item K) → Item K → Type 0
  IsAhead run x = (place : ℕ) (y : Item K) → slice_get run place ≡ Some y → before y.key x.key ≡ false

  -- the item is not before the first of the run
  abbrev pub IsNotAhead : List (Item K) → Item K → Type 0
  IsNotAhead run x = (y : Item K) → slice_get run 0 ≡ Some y → before x.key y.key ≡ false

  -- the run is in order, and each item has its own slot, which has no key in the heap
  pub record IsRun (run : List (Item K)) (heap : List (Option K)) : Type 0 where
    pub few : length heap ≤ MAX_OPS
    pub apart : AreApart (length heap) run
    pub beside : (place : ℕ) (x : Item K) → slice_get run place ≡ Some x → key_at heap x.slot ≡ None
    pub in_order : AreInOrder run

  -- the run has a first item, and no key of the heap is before it
  pub record IsRunFirst (run : List (Item K)) (heap : List (Option K)) : Type 0 where
    pub first : Item K
    pub stands : slice_get run 0 ≡ Some first
    pub least : (slot : ℕ) (k : K) → key_at heap slot ≡ Some k → before k first.key ≡ false

  -- some key of the heap is at most that of the item
  pub record HasOneFirst (heap : List (Option K)) (x : Item K) : Type 0 where
    pub slot : ℕ
    pub key : K
    pub has : key_at heap slot ≡ Some key
    pub first : before x.key key ≡ false

  abbrev pub IsHeapFirst : List (Item K) → List (Option K) → Type 0
  IsHeapFirst run heap = (place : ℕ) (x : Item K) → slice_get run place ≡ Some x → HasOneFirst heap x

  -- the invariant; the flag says whether the least key is in the run or in the heap
  pub record IsRunHeap (run : List (Item K)) (heap : List (Option K)) (is_first : Bool) : Type 0 where
    pub kept : IsRun run heap
    pub run_first : is_first ≡ true → IsRunFirst run heap
    pub heap_first : is_first ≡ false → IsHeapFirst run heap
