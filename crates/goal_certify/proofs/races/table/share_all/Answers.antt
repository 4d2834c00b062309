use Rattle.std.proofs.Common.{false, arith}
use Rattle.std.proofs.lemmas.List.Elements.{Contains-get_or}
use Rattle.goal_certify.proofs.Table.{shared_none, shared_more, shared_all}
use Rattle.goal_certify.proofs.races.table.share_all.Goals as goal

pub share-requires-clause-op : goal.share-requires-clause-op
share-requires-clause-op c =
    omega (arith, c.requires.room c.loop-touch.touch-index (record { op = 0; slot = 0; writes = false }) (omega arith))

pub share-requires-clause-touchers : goal.share-requires-clause-touchers
share-requires-clause-touchers c =
    c.requires.touchers.room _ (Contains-get_or c.args.touches.now c.loop-touch.touch-index (record { op = 0; slot = 0; writes = false }) (omega arith))

pub share-requires-clause-writers : goal.share-requires-clause-writers
share-requires-clause-writers c =
    c.requires.writers.room _ (Contains-get_or c.args.touches.now c.loop-touch.touch-index (record { op = 0; slot = 0; writes = false }) (omega arith))

pub loop-touch-init : goal.loop-touch-init
loop-touch-init c = shared_none c.args.touchers.now c.args.writers.now c.args.touches.now c.args.rows.now c.requires.empty

pub loop-touch-preserved : goal.loop-touch-preserved
loop-touch-preserved c =
    shared_more c.args.touchers.now c.args.writers.now c.args.touches.now c.loop-touch.touch-index _ c.loop-touch.rows c.share.new.rows (omega arith) c.loop-touch.invariant c.share.ensures.adds c.share.ensures.keeps c.share.ensures.no_more

pub returns : goal.returns
returns c = shared_all c.args.touchers.now c.args.writers.now c.args.touches.now c.loop-touch.touch-index c.loop-touch.rows (omega arith) c.loop-touch.invariant
