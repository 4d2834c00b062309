use Rattle.std.proofs.Common.{◌≡◌, ◌-◌, []}
use Rattle.goal_graph.specs.Fault.{op_count, dep_count, note_count}
use Rattle.goal_binary.specs.Reading.{ranks_at}
use Rattle.goal_binary.proofs.ranks.ranks_at.Given as goal

abbrev pub invariant-loop : goal.invariant-loop
invariant-loop l = record {
  so_far : ranks_at l.bytes l.layout (l.count - l.counter) l.plans.items l.place ≡ ranks_at l.bytes l.layout l.count [] l.at;
  ops : l.totals.ops ≡ op_count l.plans.items;
  deps : l.totals.deps ≡ dep_count l.plans.items;
  notes : l.totals.notes ≡ note_count l.plans.items;
}
