-- The tables of a matcher: queues or match lists.
use Rattle.std.specs.Prelude.{List}
use Rattle.goal_graph.specs.declared.action.OpId.{OpId}
use Rattle.goal_graph.specs.Schedule.{Plan}
use Rattle.sim_match.specs.declared.table.Table.{Table}
use Rattle.sim_match.specs.declared.table.Table.TheVariants.{Queued, Listed}
use Rattle.sim_match.specs.Matcher.{IsKept}
use Rattle.sim_match.specs.Queues.{AreKept}

-- the operations of the posts and arrivals so far, oldest first
abbrev pub events_of : Table → List OpId
events_of (Queued queues) = queues.events.items
events_of (Listed lists) = lists.events.items

abbrev pub IsTable : List Plan → Table → Type 0
IsTable plans (Queued queues) = AreKept plans queues
IsTable plans (Listed lists) = IsKept plans lists
