use Rattle.goal_certify.specs.Ends.{DoAlternate}
use Rattle.goal_certify.proofs.ends.Ends.do_alternate.Given as goal

-- the pairs so far alternate
abbrev pub invariant-loop-pair : goal.invariant-loop-pair
invariant-loop-pair l = DoAlternate l.self l.pair
