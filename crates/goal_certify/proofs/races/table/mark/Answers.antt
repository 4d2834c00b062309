use Rattle.std.proofs.Common.{arith}
use Rattle.goal_certify.proofs.Table.{marked_none, marked_more, marked_all}
use Rattle.goal_certify.proofs.races.table.mark.Goals as goal

pub loop-touch-init : goal.loop-touch-init
loop-touch-init c = marked_none c.args.only_writes c.args.touches.now c.args.rows.now.items c.requires.empty

pub loop-touch-preserved : goal.loop-touch-preserved
loop-touch-preserved c =
    marked_more c.args.only_writes c.args.touches.now c.loop-touch.touch-index _ c.loop-touch.rows.items c.mark_one.new.rows.items (omega arith) c.loop-touch.invariant c.in_ok-mark_one.ensures.room c.in_ok-mark_one.ensures.grown c.in_ok-mark_one.ensures.adds c.requires.ops c.in_ok-mark_one.ensures.keeps c.in_ok-mark_one.ensures.no_more

pub returns : goal.returns
returns c = marked_all c.args.only_writes c.args.touches.now c.loop-touch.touch-index c.loop-touch.rows.items (omega arith) c.loop-touch.invariant
