use Rattle.std.proofs.Common.{rules, ap, ◌∙◌, arith, set}
use Rattle.std.proofs.lemmas.List.Edits.{map_over_more}
use Rattle.goal_parser.specs.Slots.{dep_at}
use Rattle.goal_parser.proofs.names.resolve_deps.Goals as goal

pub loop-dep-preserved : goal.loop-dep-preserved
loop-dep-preserved c =
    ap (set c.loop-dep.deps c.loop-dep.dep-index) c.dep_at.ensures
    ∙ map_over_more (dep_at c.args.labels.now.slots) c.args.deps.now c.loop-dep.deps c.loop-dep.dep-index _ (omega arith) c.loop-dep.invariant (search (rules))
