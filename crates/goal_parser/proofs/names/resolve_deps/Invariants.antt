use Rattle.std.proofs.Common.{◌≡◌, ◌++◌, map, take, drop}
use Rattle.goal_parser.specs.Slots.{dep_at}
use Rattle.goal_parser.proofs.names.resolve_deps.Given as goal

abbrev pub invariant-loop-dep : goal.invariant-loop-dep
invariant-loop-dep l = l.deps ≡ map (dep_at l.labels.slots) (take l.dep-index l.initial.deps) ++ drop l.dep-index l.initial.deps
