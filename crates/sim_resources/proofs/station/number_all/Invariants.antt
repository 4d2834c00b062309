use Rattle.std.proofs.Common.{◌≤◌, length, vec_capacity}
use Rattle.goal_graph.specs.Schedule.{operations}
use Rattle.sim_resources.proofs.Numbering.{AreNumberedTo}
use Rattle.sim_resources.proofs.station.number_all.Given as goal

abbrev pub invariant-loop-id : goal.invariant-loop-id
invariant-loop-id l = record {
  to : AreNumberedTo l.sched l.id-index l.numbering.stations l.numbering.resources l.numbering.pairs.items l.numbers.items;
  room : length (operations l.sched) ≤ vec_capacity l.numbers;
}
