use Rattle.std.proofs.Common.{◌≡◌, ap, arith, subst, Some, refl, List, length, slice_get}
use Rattle.std.proofs.lemmas.Option.{slice_get_read}
use Rattle.goal_labels.specs.declared.label_map.LabelEntry.{LabelEntry}
use Rattle.goal_labels.specs.Entries.{Entries, AreUnique, label_of}
use Rattle.goal_labels.proofs.EntryLemmas.{lookup-there}
use Rattle.goal_labels.proofs.HeldLemmas.{entries_of_at_known_entry, length-entries_of}
use Rattle.goal_labels.proofs.label_map.LabelMap.get.Goals as goal

pub returns-in-Some-clause-some : goal.returns-in-Some-clause-some
returns-in-Some-clause-some c =
    let e = c.in-Some.entry.now in
    let label = label_of c.self.inside.bytes.items e in
    let read : slice_get c.deref.result.now c.args.i ≡ Some e = slice_get_read c.deref.result.now _ c.args.i e refl c.in-Some.ensures.lookup.3.0 c.in-Some.ensures.lookup.1 in
    let inside : slice_get c.self.inside.entries.items c.args.i ≡ Some e = subst (λ (es : List LabelEntry). slice_get es c.args.i ≡ Some e) c.deref.ensures.value read in
    let there : slice_get c.args.self.now c.args.i ≡ Some (label, e.info) =
    subst (λ (es : Entries). slice_get es c.args.i ≡ Some (label, e.info)) c.self.view_is (entries_of_at_known_entry c.self.inside.bytes.items c.self.inside.entries.items c.args.i e inside) in
    (label, there, lookup-there c.args.self.now label c.args.i e.info (subst AreUnique c.self.view_is c.self.invariant.1.unique) there)

pub returns-in-None-clause-none : goal.returns-in-None-clause-none
returns-in-None-clause-none c =
    omega (arith, c.in-None.ensures.lookup.3, ap length c.deref.ensures.value, ap length c.self.view_is, length-entries_of c.self.inside.bytes.items c.self.inside.entries.items)
