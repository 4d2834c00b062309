use Rattle.std.proofs.Common.{sym, subst}
use Rattle.goal_labels.specs.Entries.{Entries, IsAbsent}
use Rattle.goal_labels.specs.Ordered.{AreBefore}
use Rattle.goal_labels.proofs.IndexLemmas.{empty_map_keeps_invariant}
use Rattle.goal_labels.proofs.label_map.LabelMap.add.Goals as goal

pub append-added-requires-clause-absent : goal.append-added-requires-clause-absent
append-added-requires-clause-absent c = subst (λ (es : Entries). IsAbsent es c.args.label.now) (sym c.self.view_is) c.requires.absent

pub append-added-requires-clause-before : goal.append-added-requires-clause-before
append-added-requires-clause-before c = λ told. subst (λ (es : Entries). AreBefore es 0 c.args.label.now) (sym c.self.view_is) (c.requires.before told)

pub invariant_of-self : goal.invariant_of-self
invariant_of-self c =
    let now = c.forget.new in
    empty_map_keeps_invariant now.bytes.items now.entries.items now.first now.ascending now.numbers c.forget.ensures.entries c.forget.ensures.first c.forget.ensures.ascending c.forget.ensures.none c.forget.ensures.few
