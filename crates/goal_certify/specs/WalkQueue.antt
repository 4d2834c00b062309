-- Which operations may act next, as a queue of their places in the order of all operations, and how many of their needs
-- have been found to be met.
use Rattle.std.specs.Prelude.{ℕ, ◌≡◌, ◌⊎◌, Bool, true, false, List, length, Option, Some, None, Contains, slice_get, slice_set}
use Rattle.goal_graph.specs.declared.action.OpId.{OpId}
use Rattle.goal_graph.specs.declared.action.Class.{Class}
use Rattle.goal_graph.specs.declared.action.Class.TheVariants.{Arrive, Serve, Data, Post, Begin}
use Rattle.goal_graph.specs.declared.plan.Kind.{Kind}
use Rattle.goal_graph.specs.declared.plan.Need.{Need}
use Rattle.goal_graph.specs.declared.plan.When.{When}
use Rattle.goal_graph.specs.declared.plan.When.TheVariants.{AfterEnd, AfterStart}
use Rattle.goal_graph.specs.Schedule.{Plan, kind_at, needed, operations}
use Rattle.goal_graph.specs.Action.{Act}
use Rattle.goal_graph.specs.Concerned.{waiting_on}
use Rattle.goal_graph.specs.Matching.{pairs, partner}
use Rattle.goal_graph.specs.Allowed.{allowed, first_class, last_class}
use Rattle.goal_blocks.specs.Walk.{no_send, TakesFirst}
use Rattle.sim_queue.specs.Map.{key_at}
use Rattle.goal_certify.specs.declared.walk.cursor.Cursor.{Cursor}
use Rattle.goal_certify.specs.Cursors as progress

-- the class of the action that a dependency waits for, at an operation of this kind
abbrev pub class_at : When → Option Kind → Class
class_at AfterEnd k = last_class false k
class_at AfterStart k = first_class k

-- an action of this class may let the partner act: a Post lets a send transfer its data, a Data a receive take them
abbrev pub moves_partner : Class → Bool
moves_partner Arrive = false
moves_partner Serve = false
moves_partner Data = true
moves_partner Post = true
moves_partner Begin = false

module _ (plans : List Plan) where
  -- in a list of needs of x's rank, y waits for the action of this class of x
  pub record IsNamedAt (needs : List Need) (class : Class) (x y : OpId) : Type 0 where
    pub need : Need
    pub listed : Contains needs need
    pub named : y ≡ needed x need
    pub at : class_at need.when (kind_at plans x) ≡ class

  -- y needs x, and waits for its action of this class
  abbrev pub WaitsAt : Class → OpId → OpId → Type 0
  WaitsAt class x y = IsNamedAt (waiting_on plans x) class x y

  -- an action of this class of x may let one of y happen: y is x, or its partner, or waits for this action
  abbrev pub IsMoved : List Act → Class → OpId → OpId → Type 0
  IsMoved h class x y =
      (y ≡ x) ⊎ (((moves_partner class ≡ true) × (partner (pairs plans h) x ≡ Some y)) ⊎ WaitsAt class x y)

  module _ (h : List Act) where
    abbrev pub may_act : Class → OpId → Bool
    may_act class x = allowed plans no_send h class x

    -- no action of x may happen
    abbrev pub IsIdle : OpId → Type 0
    IsIdle x = (class : Class) → may_act class x ≡ false

    -- the class of the action of x that may happen, or `None` if none may
    abbrev pub IsChoice : OpId → Option Class → Type 0
    IsChoice x None = IsIdle x
    IsChoice x (Some class) = may_act class x ≡ true

    -- the key of an operation that may act is its place; any other has none
    abbrev pub IsKeyOf : ℕ → OpId → Option ℕ → Type 0
    IsKeyOf slot x None = IsIdle x
    IsKeyOf slot x (Some k) = (k ≡ slot) × ((class : Class) × (may_act class x ≡ true))

    -- each operation has its key in its slot, except those that are due
    pub record IsQueueBut (Due : ℕ → OpId → Type 0) (keys : List (Option ℕ)) : Type 0 where
      pub each : length keys ≡ length (operations plans)
      pub bounds : (slot : ℕ) (x : OpId) → slice_get (operations plans) slot ≡ Some x → IsKeyOf slot x (key_at keys slot) ⊎ Due slot x

    -- each operation has its key in its slot
    abbrev pub IsQueue : List (Option ℕ) → Type 0
    IsQueue keys = IsQueueBut (λ slot x. ⊥) keys

    -- the slot of x got the key of x, and the other slots are unchanged
    pub record IsRefreshed (x : OpId) (old new : List (Option ℕ)) : Type 0 where
      pub slot : ℕ
      pub is_slot : slice_get (operations plans) slot ≡ Some x
      pub key : Option ℕ
      pub bound : IsKeyOf slot x key
      pub put : new ≡ slice_set old slot key

    -- the needs of x before the cursor are met
    abbrev pub IsCursorOf : OpId → Cursor → Type 0
    IsCursorOf = progress.IsCursorOf plans no_send h

    -- there is a cursor for each operation, in their order
    abbrev pub AreCursors : List Cursor → Type 0
    AreCursors = progress.AreCursors plans no_send h

    -- what a walker keeps of its history, in which each action was the first of those that could happen
    pub record Follows (keys : List (Option ℕ)) (cursors : List Cursor) : Type 0 where
      pub queue : IsQueue keys
      pub are_cursors : AreCursors cursors
      pub in_order : TakesFirst plans h
