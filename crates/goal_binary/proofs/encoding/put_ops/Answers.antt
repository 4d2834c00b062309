use Rattle.std.proofs.Common.{◌++◌, ap, ◌∙◌}
use Rattle.std.specs.List.{flat_map}
use Rattle.std.proofs.lemmas.List.{take_all}
use Rattle.goal_binary.specs.File.{spelled_op}
use Rattle.goal_binary.proofs.Appended.{spelled_items_with_next}
use Rattle.goal_binary.proofs.encoding.put_ops.Goals as goal

pub loop-op-preserved : goal.loop-op-preserved
loop-op-preserved c =
    spelled_items_with_next (spelled_op c.args.layout) _ _ _ c.args.ops.now c.loop-op.op-index _ c.loop-op-test.true c.loop-op.invariant c.in_ok-put_op.ensures

pub returns : goal.returns
returns c =
    c.loop-op.invariant ∙ ap (λ xs. c.args.out.now.items ++ flat_map (spelled_op c.args.layout) xs) (take_all c.loop-op.op-index c.args.ops.now c.loop-op-test.false)
