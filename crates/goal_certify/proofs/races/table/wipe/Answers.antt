use Rattle.std.proofs.Common.{false, arith}
use Rattle.std.proofs.lemmas.List.Elements.{Contains-get_or}
use Rattle.goal_certify.proofs.Table.{left_first, left_next, left_none}
use Rattle.goal_certify.proofs.races.table.wipe.Goals as goal

pub loop-touch-init : goal.loop-touch-init
loop-touch-init c = left_first c.args.only_writes c.args.touches.now c.args.rows.now c.requires.marked

pub clear-requires-clause-row : goal.clear-requires-clause-row
clear-requires-clause-row c =
    omega (arith, c.requires.marked.room _ (Contains-get_or c.args.touches.now c.loop-touch.touch-index (record { op = 0; slot = 0; writes = false }) (omega arith)))

pub loop-touch-preserved : goal.loop-touch-preserved
loop-touch-preserved c =
    left_next c.args.touches.now c.loop-touch.touch-index _ c.loop-touch.rows c.clear.new.rows c.loop-touch.invariant c.clear.ensures

pub returns : goal.returns
returns c = left_none c.args.touches.now c.loop-touch.touch-index c.loop-touch.rows (omega arith) c.loop-touch.invariant
