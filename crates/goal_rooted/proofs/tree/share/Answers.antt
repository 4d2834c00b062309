use Rattle.std.proofs.Common.{◌∙◌, arith}
use Rattle.goal_rooted.proofs.RootedCases.{span_without_wrap, span_with_wrap, share_by_spans}
use Rattle.goal_rooted.proofs.tree.share.Goals as goal

pub returns-then-first-last-clause-moves : goal.returns-then-first-last-clause-moves
returns-then-first-last-clause-moves c =
    span_without_wrap c.args.ranks c.ahead-first.result c.ahead-last.result c.if-first-last.true
    ∙ share_by_spans c.args.ranks c.args.root c.args.rank c.args.size c.ahead-first.result c.ahead-last.result c.ahead-first.ensures.is (rw c.min-end.ensures at c.ahead-last.ensures.is)

pub returns-clause-moves : goal.returns-clause-moves
returns-clause-moves c =
    span_with_wrap c.args.ranks c.ahead-first.result c.ahead-last.result (omega arith)
    ∙ share_by_spans c.args.ranks c.args.root c.args.rank c.args.size c.ahead-first.result c.ahead-last.result c.ahead-first.ensures.is (rw c.min-end.ensures at c.ahead-last.ensures.is)
