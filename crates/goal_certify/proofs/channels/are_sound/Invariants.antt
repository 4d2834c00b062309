use Rattle.goal_certify.proofs.Pairs.{AreAlike}
use Rattle.goal_certify.proofs.channels.are_sound.Given as goal

-- the two of each pair so far have as many slots
abbrev pub invariant-loop-number : goal.invariant-loop-number
invariant-loop-number l = AreAlike l.sched l.ends l.number
