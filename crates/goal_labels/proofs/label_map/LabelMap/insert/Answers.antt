use Rattle.std.proofs.Common.{◌≡◌, ◌∙◌, sym, ap, subst, arith, Some, slice_get, slice_set}
use Rattle.goal_labels.specs.Entries.{Entries, IsAt, entries_of}
use Rattle.goal_labels.specs.Indexed.{IsMap}
use Rattle.goal_labels.proofs.EntryLemmas.{lookup-there, lookup-absent, put-absent, put-there, IsAt-within}
use Rattle.goal_labels.proofs.HeldLemmas.{entry_read_where_label_is, label_and_info_of_known_entry, entries_of-set, AreHeld-set, length-entries_of}
use Rattle.goal_labels.proofs.IndexLemmas.{IsMap-set}
use Rattle.goal_labels.proofs.OrderedLemmas.{label_after_all_is_absent}
use Rattle.goal_labels.proofs.label_map.LabelMap.insert.Goals as goal

pub add-requires-clause-absent : goal.add-requires-clause-absent
add-requires-clause-absent c = label_after_all_is_absent c.args.self.now c.args.label.now (c.comes_after_all.ensures c.if-comes_after_all.true)

pub returns-then-comes_after_all-clause-old : goal.returns-then-comes_after_all-clause-old
returns-then-comes_after_all-clause-old c =
    let label = c.args.label.now in
    sym (lookup-absent c.args.self.now label (label_after_all_is_absent c.args.self.now label (c.comes_after_all.ensures c.if-comes_after_all.true)))

pub returns-then-comes_after_all-clause-entries : goal.returns-then-comes_after_all-clause-entries
returns-then-comes_after_all-clause-entries c =
    let label = c.args.label.now in
    c.in_ok-add.ensures
    ∙ put-absent c.args.self.now label c.args.info (label_after_all_is_absent c.args.self.now label (c.comes_after_all.ensures c.if-comes_after_all.true))

pub index-requires : goal.index-requires
index-requires c =
    let es = entries_of c.self.inside.bytes.items c.self.inside.entries.items in
    let at : IsAt es c.args.label.now c.in-Some.i = subst (λ (ds : Entries). IsAt ds c.args.label.now c.in-Some.i) (sym c.self.view_is) c.in-Some.ensures.found in
    omega (arith, IsAt-within es c.args.label.now c.in-Some.i at, length-entries_of c.self.inside.bytes.items c.self.inside.entries.items, c.self.inside.entries.ok.0)

pub index_mut-requires : goal.index_mut-requires
index_mut-requires c =
    let es = entries_of c.self.inside.bytes.items c.self.inside.entries.items in
    let at : IsAt es c.args.label.now c.in-Some.i = subst (λ (ds : Entries). IsAt ds c.args.label.now c.in-Some.i) (sym c.self.view_is) c.in-Some.ensures.found in
    omega (arith, IsAt-within es c.args.label.now c.in-Some.i at, length-entries_of c.self.inside.bytes.items c.self.inside.entries.items, c.self.inside.entries.ok.0)

pub invariant_of-self : goal.invariant_of-self
invariant_of-self c =
    let bytes = c.self.inside.bytes.items in
    let held = c.self.inside.entries.items in
    let es = entries_of bytes held in
    let label = c.args.label.now in
    let i = c.in-Some.i in
    let e = c.index_mut.result.now in
    let at : IsAt es label i = subst (λ (ds : Entries). IsAt ds label i) (sym c.self.view_is) c.in-Some.ensures.found in (
      AreHeld-set bytes held label i e c.args.info at c.index_mut.ensures.value c.self.invariant.0,
      subst (λ (ds : Entries). IsMap ds c.self.inside.first c.self.inside.ascending c.self.inside.numbers) (sym (entries_of-set bytes held label i e c.args.info at c.index_mut.ensures.value))
          (IsMap-set es i label at.0 c.args.info at.1 c.self.inside.first c.self.inside.ascending c.self.inside.numbers c.self.invariant.1),
    )

pub returns-in-Some-clause-old : goal.returns-in-Some-clause-old
returns-in-Some-clause-old c =
    let bytes = c.self.inside.bytes.items in
    let held = c.self.inside.entries.items in
    let label = c.args.label.now in
    let i = c.in-Some.i in
    let e = c.index.result.now in
    let found = c.in-Some.ensures.found in
    let there : slice_get (entries_of bytes held) i ≡ Some (label, found.0) = subst (λ (es : Entries). slice_get es i ≡ Some (label, found.0)) (sym c.self.view_is) found.1 in
    ap Some (label_and_info_of_known_entry bytes held label i e found.0 (entry_read_where_label_is bytes held label i e (found.0, there) c.index.ensures) there).1
    ∙ sym (lookup-there c.args.self.now label i found.0 c.in-Some.ensures.unique found.1)

pub returns-in-Some-clause-entries : goal.returns-in-Some-clause-entries
returns-in-Some-clause-entries c =
    let bytes = c.self.inside.bytes.items in
    let held = c.self.inside.entries.items in
    let label = c.args.label.now in
    let i = c.in-Some.i in
    let found = c.in-Some.ensures.found in
    let at : IsAt (entries_of bytes held) label i = subst (λ (es : Entries). IsAt es label i) (sym c.self.view_is) found in
    entries_of-set bytes held label i c.index_mut.result.now c.args.info at c.index_mut.ensures.value
    ∙ ap (λ (es : Entries). slice_set es i (label, c.args.info)) c.self.view_is
    ∙ put-there c.args.self.now label i found.0 c.args.info c.in-Some.ensures.unique found.1

pub returns-in_ok-add-in-None-clause-old : goal.returns-in_ok-add-in-None-clause-old
returns-in_ok-add-in-None-clause-old c = sym (lookup-absent c.args.self.now c.args.label.now c.in-None.ensures.absent)

pub returns-in_ok-add-in-None-clause-entries : goal.returns-in_ok-add-in-None-clause-entries
returns-in_ok-add-in-None-clause-entries c =
    c.in_ok-add-in-None.ensures ∙ put-absent c.args.self.now c.args.label.now c.args.info c.in-None.ensures.absent
