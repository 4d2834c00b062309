use Rattle.std.proofs.Common.{◌≡◌, ◌≤◌, ◌++◌, length, take}
use Rattle.std.specs.List.{flat_map}
use Rattle.goal_print.specs.Canonical.{dep_line}
use Rattle.goal_print.proofs.print.put_deps.Given as goal

-- the lines so far
abbrev pub invariant-loop-dep : goal.invariant-loop-dep
invariant-loop-dep l =
    record {
      text : l.out ++ take l.end l.lines ≡ l.initial.out ++ flat_map dep_line (take l.dep-index l.deps);
      within : l.end ≤ length l.lines;
    }
