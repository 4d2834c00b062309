use Rattle.std.proofs.Common.{arith}
use Rattle.goal_certify.proofs.Rows.{joined_none, joined_more, joined_adds, joined_keeps, joined_no_more}
use Rattle.goal_certify.proofs.races.rows.join_within.Goals as goal

pub loop-place-init : goal.loop-place-init
loop-place-init c = joined_none c.args.rows.now c.args.row c.args.rows.now c.args.other

pub loop-place-preserved : goal.loop-place-preserved
loop-place-preserved c =
    joined_more c.args.rows.now c.loop-place.rows c.args.row c.args.rows.now c.args.other c.loop-place.place _ (omega arith) (c.loop-place.invariant.rest _ (λ a b. omega arith)) c.loop-place.invariant

pub returns-clause-adds : goal.returns-clause-adds
returns-clause-adds c = joined_adds _ _ _ _ _ _ (omega arith) (λ k few h. omega (arith, c.requires.low k few h)) c.loop-place.invariant

pub returns-clause-keeps : goal.returns-clause-keeps
returns-clause-keeps c = joined_keeps _ _ _ _ _ _ (omega arith) (λ k few h. omega (arith, c.requires.low k few h)) c.loop-place.invariant

pub returns-clause-no_more : goal.returns-clause-no_more
returns-clause-no_more c = joined_no_more _ _ _ _ _ _ (omega arith) (λ k few h. omega (arith, c.requires.low k few h)) c.loop-place.invariant
