-- The key of an event, as the event and as nested pairs.
use Rattle.std.specs.Prelude.{ℕ}
use Rattle.goal_graph.specs.declared.action.Timed.{Timed}
use Rattle.goal_graph.specs.declared.action.Class.{Class}
use Rattle.sim_order.specs.declared.key.Lex.{Lex}
use Rattle.sim_order.specs.declared.order.Counted.{Counted}

-- time, class, rank and number, nested in this order
abbrev pub Nest : Type 0
Nest = Counted (Lex ℕ (Lex Class (Lex ℕ ℕ)))

abbrev pub event_of : Nest → Timed
event_of n = record {
  time = n.0.first;
  class = n.0.rest.first;
  op = record { rank = n.0.rest.rest.first; op = n.0.rest.rest.rest };
}

abbrev pub nest_of : Timed → Nest
nest_of e = record {
  0 = record { first = e.time; rest = record { first = e.class; rest = record { first = e.op.rank; rest = e.op.op } } };
}
