-- How often the stations of a queue have switched resources.
use Rattle.std.specs.Prelude.{ℕ, ◌≡◌, ◌+◌, List, Some, slice_get, slice_index}
use Rattle.goal_graph.specs.declared.action.OpId.{OpId}
use Rattle.goal_graph.specs.declared.action.Timed.{Timed}
use Rattle.goal_graph.specs.declared.plan.Op.{Op}
use Rattle.goal_graph.specs.Schedule.{Plan, op_at, operations}
use Rattle.sim_stations.specs.Stations.{Stationed, pair_of}
use Rattle.sim_stations.specs.Moves.{HaveReturned, changes}
use Rattle.sim_events.specs.Cost.{station_of, cpu_alone, side_alone, times_held}

-- no station of a queue has switched
pub record AreAtPlaces (old new : Stationed) : Type 0 where
  pub stations : new.stations ≡ old.stations
  pub pairs : new.pairs ≡ old.pairs
  pub turned : new.turned ≡ old.turned
  pub free : new.free ≡ old.free

module _ (plans : List Plan) (h : List Timed) where
  -- `holds` is how often the resources of each operation were held
  pub record AreHeld (queue : Stationed) (holds : List ℕ) : Type 0 where
    pub cpus : (slot : ℕ) (x : OpId) (o : Op) → slice_get (operations plans) slot ≡ Some x → op_at plans x ≡ Some o → slice_index holds (pair_of queue slot).cpu ≡ times_held plans h (cpu_alone (station_of x o))
    pub sides : (slot : ℕ) (x : OpId) (o : Op) → slice_get (operations plans) slot ≡ Some x → op_at plans x ≡ Some o → slice_index holds (pair_of queue slot).side ≡ times_held plans h (side_alone (station_of x o))

  -- The stations of a queue have switched `all` times, and none more often than the actions so far allow.
  pub record HaveChanged (queue : Stationed) (all : ℕ) : Type 0 where
    pub holds : List ℕ
    pub returns : List ℕ
    pub held : AreHeld queue holds
    pub returned : HaveReturned queue.pairs queue.turned queue.free holds returns
    pub counted : all ≡ changes queue.turned returns

  -- this still holds after the switches that a counter has counted
  pub record HaveChangedOn (queue : Stationed) (all before after : ℕ) : Type 0 where
    pub now : ℕ
    pub changed : HaveChanged queue now
    pub counted : after + all ≡ before + now
