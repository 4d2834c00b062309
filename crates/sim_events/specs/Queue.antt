-- The queue of an engine: the possible action of each operation that has one.
use Rattle.std.specs.Prelude.{ℕ, ◌≡◌, ◌≢◌, ◌⊎◌, true, false, List, Contains, length, Option, Some, None, slice_get, slice_index, slice_set}
use Rattle.std.specs.Option.{option_map}
use Rattle.goal_graph.specs.declared.action.OpId.{OpId}
use Rattle.goal_graph.specs.declared.action.Timed.{Timed}
use Rattle.goal_graph.specs.declared.action.Class.{Class}
use Rattle.goal_graph.specs.declared.action.Class.TheVariants.{Serve}
use Rattle.goal_graph.specs.declared.plan.Need.{Need}
use Rattle.goal_graph.specs.Schedule.{Plan, needed, operations}
use Rattle.goal_graph.specs.Concerned.{waiting_on}
use Rattle.sim_params.specs.Costs.{CostModel}
use Rattle.sim_params.specs.Times.{mate, cpu, Possible}
use Rattle.sim_queue.specs.Map.{key_at}
use Rattle.sim_stations.specs.Stations.{Stationed, holds_cpu, when_free, held, pair_of, DoExist}
use Rattle.sim_stations.specs.Moves.{HaveReturned, held_once_more}
use Rattle.sim_state.specs.Enabled.{IsIdle, IsEnabledActionOf}
use Rattle.sim_state.specs.Awaited.{gives}
use Rattle.sim_state.specs.Free.{side}
use Rattle.sim_state.specs.Tasks.{IsLast}
use Rattle.sim_resources.specs.Numbering.{AreStationed}

-- A queue after the action in a slot, which leaves its resources free at c and s. Its key is removed. If the action
-- held a cpu, the keys of all that wait for these resources are raised, and each was held once more.
pub record IsSettledBy (c s slot : ℕ) (a : Timed) (old new : Stationed) : Type 0 where
  pub each : length new.keys ≡ length old.keys
  pub gone : key_at new.keys slot ≡ None
  pub stations : new.stations ≡ old.stations
  pub pairs : new.pairs ≡ old.pairs
  pub turned : new.turned ≡ old.turned
  pub raised : holds_cpu a.class ≡ true → (other : ℕ) → other ≢ slot → key_at new.keys other ≡ option_map (when_free new.free (pair_of old other)) (key_at old.keys other)
  pub free : holds_cpu a.class ≡ true → new.free ≡ held old.free (pair_of old slot) c s
  pub same : holds_cpu a.class ≡ false → new.keys ≡ slice_set old.keys slot None
  pub same_free : holds_cpu a.class ≡ false → new.free ≡ old.free
  pub returned :
      holds_cpu a.class ≡ true → (holds returns : List ℕ)
      → HaveReturned old.pairs old.turned old.free holds returns
      → HaveReturned new.pairs new.turned new.free (held_once_more holds (pair_of old slot)) returns

-- by one of these needs y waits for a moment of x that an action of this class may give
pub record IsAwaiting (needs : List Need) (class : Class) (x y : OpId) : Type 0 where
  pub need : Need
  pub listed : Contains needs need
  pub named : y ≡ needed x need
  pub given : gives class need.when ≡ true

module _ (plans : List Plan) where
  -- y needs a moment of x that an action of this class may give
  abbrev pub Awaits : Class → OpId → OpId → Type 0
  Awaits class x y = IsAwaiting (waiting_on plans x) class x y

  module _ (costs : CostModel) (h : List Timed) where
    -- the resources of each slot are free when those of its operation are
    pub record AreFree (queue : Stationed) : Type 0 where
      pub cpus : (slot : ℕ) (x : OpId) → slice_get (operations plans) slot ≡ Some x → slice_index queue.free (pair_of queue slot).cpu ≡ cpu plans costs h x
      pub sides : (slot : ℕ) (x : OpId) → slice_get (operations plans) slot ≡ Some x → slice_index queue.free (pair_of queue slot).side ≡ side plans costs h x

    -- what holds of a queue of this schedule, whatever its keys are
    pub record IsOfSchedule (queue : Stationed) : Type 0 where
      pub each : length queue.keys ≡ length (operations plans)
      pub stationed : AreStationed plans queue.stations queue.pairs
      pub exist : DoExist queue.pairs (length queue.free)
      pub free : AreFree queue

    -- Each operation's key is its possible action, and one without a key is idle, or due.
    pub record IsQueueBut (Due : OpId → Type 0) (queue : Stationed) : Type 0 where
      pub of_it : IsOfSchedule queue
      pub possible :
          (slot : ℕ) (x : OpId) (e : Timed)
          → slice_get (operations plans) slot ≡ Some x → key_at queue.keys slot ≡ Some e → (e.op ≡ x) × Possible plans costs h e
      pub idle :
          (slot : ℕ) (x : OpId)
          → slice_get (operations plans) slot ≡ Some x → key_at queue.keys slot ≡ None → IsIdle plans costs h x ⊎ Due x

    -- each operation has its possible action in its slot
    abbrev pub IsQueue : Stationed → Type 0
    IsQueue queue = IsQueueBut (λ x. ⊥) queue

    -- each key is possible, and any operation may be without one
    abbrev pub HasPossibleKeys : Stationed → Type 0
    HasPossibleKeys queue = IsQueueBut (λ x. Unit {0}) queue

    -- the slot of x got its possible action, and the other slots are unchanged
    pub record IsRefreshed (x : OpId) (old new : Stationed) : Type 0 where
      pub slot : ℕ
      pub is_slot : slice_get (operations plans) slot ≡ Some x
      pub key : Option Timed
      pub enabled : IsEnabledActionOf plans costs h x key
      pub put : new.keys ≡ slice_set old.keys slot key
      pub stations : new.stations ≡ old.stations
      pub pairs : new.pairs ≡ old.pairs
      pub turned : new.turned ≡ old.turned
      pub free : new.free ≡ old.free

    -- after an action y is due if y is its operation, but not after its last action; if y is its partner, but not after
    -- a Serve; or if y needs the moment that the action gives
    abbrev pub IsDueAfter : Timed → OpId → Type 0
    IsDueAfter a y = ((IsLast plans costs a → ⊥) × (y ≡ a.op)) ⊎ (((a.class ≢ Serve) × (mate plans costs h a.op ≡ Some y)) ⊎ Awaits a.class a.op y)
