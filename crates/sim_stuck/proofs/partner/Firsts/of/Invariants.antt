use Rattle.std.proofs.Common.{◌≤◌, drop, length}
use Rattle.sim_stuck.specs.Patterns.{AreFirsts}
use Rattle.sim_stuck.proofs.partner.Firsts.of.Given as goal

-- the first of those from here on
abbrev pub invariant-loop-left : goal.invariant-loop-left
invariant-loop-left l = (l.left ≤ length l.ids) × AreFirsts l.sched (drop l.left l.ids) l.firsts

abbrev pub decreases-loop-left : goal.decreases-loop-left
decreases-loop-left l = l.left
