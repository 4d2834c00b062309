-- The order of events.
use Rattle.std.specs.Prelude.{◌≡◌, Bool, nat_lt}
use Rattle.goal_graph.specs.declared.action.Timed.{Timed}
use Rattle.goal_graph.specs.declared.action.Class.{Class}
use Rattle.goal_graph.specs.Action.{place}
use Rattle.goal_graph.specs.Order.{key}
use Rattle.goal_graph.specs.Keys.{less}
use Rattle.sim_order.specs.Order.{lexical}

-- the classes of actions at one time: Arrive, Serve, Data, Post, Begin
abbrev pub class_less : Class → Class → Bool
class_less a b = nat_lt (place a) (place b)

-- the order of events: by time, then by class, then by the rank of the operation, then by its number
abbrev pub event_before : Timed → Timed → Bool
event_before a b =
    lexical (nat_lt a.time b.time) (nat_lt b.time a.time)
    (lexical (class_less a.class b.class) (class_less b.class a.class)
    (lexical (nat_lt a.op.rank b.op.rank) (nat_lt b.op.rank a.op.rank)
    (nat_lt a.op.op b.op.op)))

-- this is the order of the keys of actions
abbrev pub EventsGoByKey : Type 0
EventsGoByKey = (a b : Timed) → event_before a b ≡ less (key a) (key b)
