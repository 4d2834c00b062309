use Rattle.std.proofs.Common.{◌≡◌, ◌++◌, drop}
use Rattle.goal_print.specs.Canonical.{blocks, canonical}
use Rattle.goal_print.proofs.print.print_text.Given as goal

-- what is printed, followed by the lines of the remaining ranks, is the whole text
abbrev pub invariant-loop-rank : goal.invariant-loop-rank
invariant-loop-rank l = l.out ++ blocks l.rank (drop l.rank l.plans) ≡ canonical l.sched
