use Rattle.std.proofs.Common.{◌≡◌, ◌++◌, take}
use Rattle.std.specs.List.{flat_map}
use Rattle.goal_binary.specs.File.{spelled_dep}
use Rattle.goal_binary.proofs.encoding.put_deps.Given as goal

abbrev pub invariant-loop-dep : goal.invariant-loop-dep
invariant-loop-dep l = l.out.items ≡ l.initial.out.items ++ flat_map (spelled_dep l.layout) (take l.dep-index l.deps)
