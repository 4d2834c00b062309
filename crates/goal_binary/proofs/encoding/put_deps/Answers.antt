use Rattle.std.proofs.Common.{◌++◌, ap, ◌∙◌}
use Rattle.std.specs.List.{flat_map}
use Rattle.std.proofs.lemmas.List.{take_all}
use Rattle.goal_binary.specs.File.{spelled_dep}
use Rattle.goal_binary.proofs.Appended.{spelled_items_with_next}
use Rattle.goal_binary.proofs.encoding.put_deps.Goals as goal

pub loop-dep-preserved : goal.loop-dep-preserved
loop-dep-preserved c =
    spelled_items_with_next (spelled_dep c.args.layout) _ _ _ c.args.deps.now c.loop-dep.dep-index _ c.loop-dep-test.true c.loop-dep.invariant c.in_ok-put_dep.ensures

pub returns : goal.returns
returns c =
    c.loop-dep.invariant ∙ ap (λ xs. c.args.out.now.items ++ flat_map (spelled_dep c.args.layout) xs) (take_all c.loop-dep.dep-index c.args.deps.now c.loop-dep-test.false)
