-- Actions without their times, and lists of them. A list of actions is newest first: `a ∷ h` is h, and then a.
use Rattle.std.specs.Prelude.{ℕ, ◌==◌, ◌&&◌, ◌||◌, Bool, true, false, List, [], ◌∷◌, Option, Some, None, if◌then◌else◌}
use Rattle.std.specs.Option.{option_or}
use Rattle.goal_graph.specs.declared.action.OpId.{OpId}
use Rattle.goal_graph.specs.declared.action.Timed.{Timed}
use Rattle.goal_graph.specs.declared.action.Class.{Class}
use Rattle.goal_graph.specs.declared.action.Class.TheVariants.{Arrive, Serve, Data, Post, Begin}

-- an action: its class and its operation; for Arrive and Data the operation is the send
pub record Act : Type 0 where
  pub class : Class
  pub op : OpId

-- the place of a class among actions at one time: the lowest happens first
abbrev pub place : Class → ℕ
place Arrive = 0
place Serve = 1
place Data = 2
place Post = 3
place Begin = 4

-- actions of this class hold the cpu of their operation
abbrev pub holds_cpu : Class → Bool
holds_cpu Arrive = false
holds_cpu Serve = true
holds_cpu Data = true
holds_cpu Post = false
holds_cpu Begin = true

abbrev pub same_op : OpId → OpId → Bool
same_op x y = (x.rank == y.rank) && (x.op == y.op)

-- this is an action of that class
abbrev pub is_of : Class → Act → Bool
is_of class a = place a.class == place class

-- this is the action of that class and operation
abbrev pub is_act : Class → OpId → Act → Bool
is_act class x a = is_of class a && same_op a.op x

-- the action of that class and operation has happened
unfoldable pub happened : Class → OpId → List Act → Bool
happened class x [] = false
happened class x (a ∷ h) = happened class x h || is_act class x a

-- the operation of the oldest action that passes the test
unfoldable pub oldest : (Act → Bool) → List Act → Option OpId
oldest test [] = None
oldest test (a ∷ h) = option_or (oldest test h) (if test a then Some a.op else None)

-- an action, and a history, without the times
abbrev pub plain_act : Timed → Act
plain_act a = record { class = a.class; op = a.op }

unfoldable pub plain : List Timed → List Act
plain [] = []
plain (a ∷ h) = plain_act a ∷ plain h
