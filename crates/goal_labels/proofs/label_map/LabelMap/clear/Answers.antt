use Rattle.goal_labels.proofs.HeldLemmas.{entries_of-empty}
use Rattle.goal_labels.proofs.IndexLemmas.{empty_map_keeps_invariant}
use Rattle.goal_labels.proofs.label_map.LabelMap.clear.Goals as goal

pub invariant_of-self : goal.invariant_of-self
invariant_of-self c =
    let now = c.forget.new in
    empty_map_keeps_invariant now.bytes.items now.entries.items now.first now.ascending now.numbers c.forget.ensures.entries c.forget.ensures.first c.forget.ensures.ascending c.forget.ensures.none c.forget.ensures.few

pub returns : goal.returns
returns c = entries_of-empty c.forget.new.bytes.items c.forget.new.entries.items c.forget.ensures.entries
