use Rattle.std.proofs.Common.{◌∙◌, arith}
use Rattle.goal_blocks.proofs.ForCallers.{scatter_gives_first, scatter_takes, scatter_gives}
use Rattle.goal_rooted.proofs.steps.scatter_step.Goals as goal

pub returns-then-rank-eq0 : goal.returns-then-rank-eq0
returns-then-rank-eq0 c =
    rw c.children-rounds.ensures at c.give_step.ensures
    ∙ scatter_gives_first c.args.ranks c.args.root c.args.bytes c.args.rank c.args.number c.if-rank-eq0.true

pub returns-then-number-eq0 : goal.returns-then-number-eq0
returns-then-number-eq0 c =
    rw (c.receive.ensures, c.parent-from.ensures, c.low.ensures, c.share.ensures.moves, c.share.ensures.adds, c.part.ensures.is)
    (scatter_takes c.args.ranks c.args.root c.args.bytes c.args.rank c.args.number (omega arith) c.if-number-eq0.true)

pub returns : goal.returns
returns c =
    rw c.children-rounds.ensures at c.give_step-2.ensures
    ∙ scatter_gives c.args.ranks c.args.root c.args.bytes c.args.rank c.args.number (omega arith) (omega arith)
