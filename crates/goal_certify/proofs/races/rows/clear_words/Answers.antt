use Rattle.std.proofs.Common.{arith}
use Rattle.goal_certify.proofs.Rows.{cleared_none, cleared_more, cleared_less}
use Rattle.goal_certify.proofs.races.rows.clear_words.Goals as goal

pub loop-place-init : goal.loop-place-init
loop-place-init c = cleared_none c.args.rows.now c.args.row

pub loop-place-preserved : goal.loop-place-preserved
loop-place-preserved c =
    cleared_more c.args.rows.now c.loop-place.rows c.args.row c.loop-place.place (omega arith) c.loop-place.invariant

pub returns : goal.returns
returns c = cleared_less _ _ _ c.args.words (omega arith) c.loop-place.place (omega arith) c.loop-place.invariant
