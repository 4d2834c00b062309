use Rattle.std.proofs.Common.{◌≡◌, ◌≤◌, ◌++◌, length, take, drop}
use Rattle.goal_print.specs.Canonical.{op_lines}
use Rattle.goal_print.proofs.print.put_ops.Given as goal

-- the lines so far, followed by the remaining lines, are what was there and the lines of all
abbrev pub invariant-loop-number : goal.invariant-loop-number
invariant-loop-number l =
    record {
      text : (l.out ++ take l.end l.lines) ++ op_lines l.number (drop l.number l.ops) ≡ l.initial.out ++ op_lines 0 l.ops;
      within : l.end ≤ length l.lines;
    }
