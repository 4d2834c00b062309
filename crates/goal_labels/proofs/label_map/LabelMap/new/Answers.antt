use Rattle.std.proofs.Common.{refl}
use Rattle.goal_labels.proofs.HeldLemmas.{entries_of-empty}
use Rattle.goal_labels.proofs.IndexLemmas.{empty_map_keeps_invariant}
use Rattle.goal_labels.proofs.label_map.LabelMap.new.Goals as goal

pub invariant_of-result : goal.invariant_of-result
invariant_of-result c = empty_map_keeps_invariant c.new-2.result.items c.new.result.items 0 0 c.new-3.result c.new.ensures.items refl refl c.new-3.ensures.none c.new-3.ensures.few

pub returns : goal.returns
returns c = entries_of-empty c.new-2.result.items c.new.result.items c.new.ensures.items
