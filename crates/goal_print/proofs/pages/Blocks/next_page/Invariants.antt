use Rattle.std.proofs.Common.{◌≡◌, ◌<◌, ◌-◌, ◌++◌, length, drop}
use Rattle.goal_print.specs.Canonical.{blocks}
use Rattle.goal_print.specs.Pages.{blocks_from}
use Rattle.goal_print.proofs.pages.Blocks.next_page.Given as goal

-- the page so far, followed by the blocks of the remaining ranks, is what was to be printed
abbrev pub invariant-loop-rank : goal.invariant-loop-rank
invariant-loop-rank l =
    (l.out ++ blocks l.rank (drop l.rank l.plans) ≡ blocks_from l.plans l.self-inside.done) × (0 < l.operations → 0 < length l.out)

abbrev pub decreases-loop-rank : goal.decreases-loop-rank
decreases-loop-rank l = length l.plans - l.rank
