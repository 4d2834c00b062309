use Rattle.std.proofs.Common.{◌∙◌, arith}
use Rattle.goal_rooted.proofs.RootedCases.{rounds_of_root, rounds_of_other}
use Rattle.goal_rooted.proofs.tree.children.Goals as goal

pub returns-then-rank-eq0 : goal.returns-then-rank-eq0
returns-then-rank-eq0 c = c.digits-rounds.ensures ∙ rounds_of_root c.args.ranks c.args.rank c.if-rank-eq0.true

pub returns : goal.returns
returns c = rw (c.low.ensures, c.digits-rounds.ensures) at c.min.ensures ∙ rounds_of_other c.args.ranks c.args.rank (omega arith)
