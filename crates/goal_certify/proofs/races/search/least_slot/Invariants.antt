use Rattle.std.proofs.Common.{take}
use Rattle.goal_certify.specs.Races.{IsLeastSlot}
use Rattle.goal_certify.proofs.races.search.least_slot.Given as goal

-- the least slot of the touches so far
abbrev pub invariant-loop-touch : goal.invariant-loop-touch
invariant-loop-touch l = IsLeastSlot l.touchers l.writers (take l.touch-index l.touches) l.pair l.least
