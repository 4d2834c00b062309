use Rattle.std.proofs.Common.{◌≡◌, ◌-◌, length}
use Rattle.goal_binary.specs.Reading.{dep_at, list_at}
use Rattle.goal_binary.proofs.Loop.{with_front}
use Rattle.goal_binary.proofs.items.deps_at.Given as goal

abbrev pub invariant-loop : goal.invariant-loop
invariant-loop l = record {
  so_far : with_front l.deps.items (list_at (dep_at l.bytes l.layout) (l.count - l.counter) l.place) ≡ list_at (dep_at l.bytes l.layout) l.count l.at;
  count : length l.deps.items ≡ l.counter;
}
