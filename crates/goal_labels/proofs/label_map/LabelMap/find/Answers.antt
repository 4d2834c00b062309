use Rattle.std.proofs.Common.{◌∙◌, subst}
use Rattle.std.specs.Option.{IfNone}
use Rattle.goal_labels.specs.Entries.{Entries, IsAbsent, AreUnique}
use Rattle.goal_labels.proofs.HeldLemmas.{entries_of-read}
use Rattle.goal_labels.proofs.label_map.LabelMap.find.Goals as goal

pub returns-clause-absent : goal.returns-clause-absent
returns-clause-absent c =
    let bytes = c.self.inside.bytes.items in
    let held = c.self.inside.entries.items in
    let same =
    entries_of-read c.deref-2.result.now bytes c.deref.result.now held c.deref-2.ensures.value c.deref.ensures.value ∙ c.self.view_is in
    subst (λ (es : Entries). IfNone c.find.result (IsAbsent es c.args.label.now)) same c.find.ensures.absent

pub returns-clause-unique : goal.returns-clause-unique
returns-clause-unique c = subst AreUnique c.self.view_is c.self.invariant.1.unique
