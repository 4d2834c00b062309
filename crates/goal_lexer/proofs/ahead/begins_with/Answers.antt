use Rattle.std.proofs.Common.{sym, arith, ◌∙◌}
use Rattle.goal_lexer.proofs.FoundAheadLaws.{four_more_bytes_agree}
use Rattle.goal_lexer.proofs.ahead.begins_with.Goals as goal

pub loop-at-preserved : goal.loop-at-preserved
loop-at-preserved c = (
  omega (arith, c.loop-at-test.true),
  four_more_bytes_agree c.args.rest.now c.args.word.now c.loop-at.at c.loop-at.invariant.1 (sym c.begin_alike.ensures ∙ c.if-not-begin_alike.false),
)
