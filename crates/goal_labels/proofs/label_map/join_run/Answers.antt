use Rattle.std.proofs.Common.{◌≡◌, ℕ, ◌+◌, ◌<◌, List, arith, subst, length}
use Rattle.std.proofs.lemmas.Option.{slice_get-get_or}
use Rattle.goal_labels.specs.declared.label_map.LabelEntry.{LabelEntry}
use Rattle.goal_labels.specs.declared.numbers.LabelNumbers.{LabelNumbers}
use Rattle.goal_labels.specs.Entries.{entries_of}
use Rattle.goal_labels.specs.Indexed.{IsMap}
use Rattle.goal_labels.specs.Ordered.{AreAscending}
use Rattle.goal_labels.proofs.EntryLemmas.{IsAt-within}
use Rattle.goal_labels.proofs.HeldLemmas.{read_label_has_entry, read_label_has_1_to_64_bytes, length-entries_of}
use Rattle.goal_labels.proofs.IndexLemmas.{IsMap-ended, first_of_run_has_no_number}
use Rattle.goal_labels.proofs.label_map.join_run.Goals as goal
use Rattle.goal_labels.proofs.label_map.join_run.Goals.{then-after_all-via-then-after_all, then-after_all-via-else-after_all+then-comes_after_last}

pub returns-then-after_all-clause-before : goal.returns-then-after_all-clause-before
returns-then-after_all-clause-before c = λ told i one from at.
    let bytes = c.args.bytes.now in
    let held = c.args.entries.now in
    let es = entries_of bytes held in
    let ascend : AreAscending es c.args.first.now (length held) =
    subst (AreAscending es c.args.first.now) (c.if-ascending-entries.false) c.requires.map.ascend in
    elim c.then-after_all.branch [
      | then-after_all-via-then-after_all w ↦ c.requires.before w.if-after_all.true i one (omega arith) at
      | then-after_all-via-else-after_all+then-comes_after_last w ↦ w.comes_after_last.ensures w.if-comes_after_last.true c.args.first.now ascend i one from at
    ]

-- the run has one label, which is among the entries
first_within : (bytes : List ℕ) (held : List LabelEntry) (first ascending : ℕ) (numbers : LabelNumbers) → IsMap (entries_of bytes held) first ascending numbers
    → first + 1 ≡ ascending → first < length held
first_within bytes held first ascending numbers map one = omega (arith, one, map.within, length-entries_of bytes held)

pub label_of-requires : goal.label_of-requires
label_of-requires c =
    let held = c.args.entries.now in
    let within = first_within c.args.bytes.now held c.args.first.now c.args.ascending c.args.numbers.now c.requires.map c.if-first-ascending.false in
    record { held = c.requires.held _ _ (slice_get-get_or held _ _ within) }

pub insert-requires-clause-some : goal.insert-requires-clause-some
insert-requires-clause-some c =
    let bytes = c.args.bytes.now in
    let held = c.args.entries.now in
    let first = c.args.first.now in
    let within = first_within bytes held first c.args.ascending c.args.numbers.now c.requires.map c.if-first-ascending.false in
    (read_label_has_1_to_64_bytes bytes held first c.label_of.result.now _ c.requires.held within c.label_of.ensures).0

pub insert-requires-clause-short : goal.insert-requires-clause-short
insert-requires-clause-short c =
    let bytes = c.args.bytes.now in
    let held = c.args.entries.now in
    let first = c.args.first.now in
    let within = first_within bytes held first c.args.ascending c.args.numbers.now c.requires.map c.if-first-ascending.false in
    (read_label_has_1_to_64_bytes bytes held first c.label_of.result.now _ c.requires.held within c.label_of.ensures).1

pub insert-requires-clause-absent : goal.insert-requires-clause-absent
insert-requires-clause-absent c =
    let bytes = c.args.bytes.now in
    let held = c.args.entries.now in
    let first = c.args.first.now in
    let read = c.label_of.result.now in
    let one = c.if-first-ascending.false in
    let within = first_within bytes held first c.args.ascending c.args.numbers.now c.requires.map one in
    first_of_run_has_no_number (entries_of bytes held) first c.args.ascending c.args.numbers.now read c.requires.map (omega (arith, one))
    (read_label_has_entry bytes held first read _ within c.label_of.ensures)

pub returns-clause-map : goal.returns-clause-map
returns-clause-map c =
    let bytes = c.args.bytes.now in
    let held = c.args.entries.now in
    let first = c.args.first.now in
    let read = c.label_of.result.now in
    let one = c.if-first-ascending.false in
    let within = first_within bytes held first c.args.ascending c.args.numbers.now c.requires.map one in
    let at = read_label_has_entry bytes held first read _ within c.label_of.ensures in
    IsMap-ended (entries_of bytes held) first c.args.ascending c.args.numbers.now c.requires.map read at one c.insert.new.self
    (c.in_ok-insert.ensures.few c.requires.map.few) c.in_ok-insert.ensures.numbered

-- a run that begins has no label that goes before the new one
pub returns-clause-before : goal.returns-clause-before
returns-clause-before c = λ told i one from at.
    let bytes = c.args.bytes.now in
    let held = c.args.entries.now in
    absurd (omega (arith, from, c.if-ascending-entries.false, IsAt-within (entries_of bytes held) one i at, length-entries_of bytes held))
