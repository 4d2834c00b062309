use Rattle.std.proofs.Common.{◌≡◌, ◌+◌, count_by, drop, map, take}
use Rattle.goal_graph.specs.Schedule.{operations}
use Rattle.sim_state.proofs.GivenEntries.{entry_so_far}
use Rattle.sim_state.proofs.GivenTables.{may_give}
use Rattle.sim_state.proofs.state.give.give.Given as goal

-- Of those before the place each moment is counted and given, and of those from it on none.
abbrev pub invariant-loop-need : goal.invariant-loop-need
invariant-loop-need g l = record {
  counted : l.reads ≡ l.initial.reads + count_by (may_give l.action.class) (take l.need-index l.waiting);
  entries : l.entries ≡ map (entry_so_far l.sched (g.C.Costs.model l.costs) (g.H.History.actions l.history) l.action (take l.need-index l.waiting) (drop l.need-index l.waiting)) (operations l.sched);
}
