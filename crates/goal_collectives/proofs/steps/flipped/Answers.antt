use Rattle.goal_collectives.proofs.Cases.{flipped_sets_digit, flipped_clears_digit}
use Rattle.goal_collectives.proofs.steps.flipped.Goals as goal

pub returns-then-rank-digit-eq0 : goal.returns-then-rank-digit-eq0
returns-then-rank-digit-eq0 c = flipped_sets_digit c.args.rank c.args.round c.power-digit.result c.power-digit.ensures c.if-rank-digit-eq0.true

pub returns-else-rank-digit-eq0 : goal.returns-else-rank-digit-eq0
returns-else-rank-digit-eq0 c = flipped_clears_digit c.args.rank c.args.round c.power-digit.result c.power-digit.ensures c.if-rank-digit-eq0.false
