use Rattle.std.proofs.Common.{◌∙◌, sym, subst}
use Rattle.goal_labels.specs.Entries.{entries_of, AreUnique}
use Rattle.goal_labels.proofs.EntryLemmas.{is_at-guess}
use Rattle.goal_labels.proofs.HeldLemmas.{entries_of-read}
use Rattle.goal_labels.proofs.label_map.LabelMap.find_near.Goals as goal

pub returns-then-not-is_at-clause-unique : goal.returns-then-not-is_at-clause-unique
returns-then-not-is_at-clause-unique c = subst AreUnique c.self.view_is c.self.invariant.1.unique

pub returns-clause-found : goal.returns-clause-found
returns-clause-found c =
    let bytes = c.self.inside.bytes.items in
    let held = c.self.inside.entries.items in
    let read = c.deref-4.result.now in
    let seen = c.deref-3.result.now in
    let same = entries_of-read read bytes seen held c.deref-4.ensures.value c.deref-3.ensures.value in
    is_at-guess (entries_of read seen) (entries_of bytes held) c.args.label.now c.number_near-guess.result (sym c.is_at.ensures ∙ c.if-not-is_at.false) same
