use Rattle.std.proofs.Common.{◌≡◌, ◌∙◌, ◌-◌, ◌<◌, arith, sym, subst, Some, None, length, slice_get}
use Rattle.std.proofs.lemmas.Option.{none-some, slice_get-get_or, slice_get_within}
use Rattle.goal_labels.specs.declared.label_map.LabelEntry.{LabelEntry}
use Rattle.goal_labels.specs.Entries.{entries_of, IsAt}
use Rattle.goal_labels.proofs.EntryLemmas.{IsAt-within}
use Rattle.goal_labels.proofs.HeldLemmas.{IsAt-entry, length-entries_of}
use Rattle.goal_labels.proofs.OrderedLemmas.{label_after_last_is_after_all}
use Rattle.goal_labels.proofs.label_map.comes_after_last.Goals as goal

pub returns-in_default : goal.returns-in_default
returns-in_default c = λ told first ascending i one from at.
    let bytes = c.args.bytes.now in
    let held = c.args.entries.now in
    let last = length held - 1 in
    let es = entries_of bytes held in
    let any : LabelEntry = record { info = record { op = None; at = 0 }; from = 0; len = 0 } in
    let within : last < length held = omega (arith, IsAt-within es one i at, length-entries_of bytes held) in
    absurd (none-some _ (c.in_default.ensures.value ∙ slice_get-get_or held last any within))

pub returns-in-Less : goal.returns-in-Less
returns-in-Less c = λ told first ascending.
    let bytes = c.args.bytes.now in
    let held = c.args.entries.now in
    let es = entries_of bytes held in
    let read = c.label_of.result.now in
    let last = length held - 1 in
    let entry : slice_get held last ≡ Some c.in-Some.last.now = sym c.in-Some.ensures.value in
    let there : IsAt es read last =
    subst (λ k. IsAt es k last) (sym c.label_of.ensures) (IsAt-entry bytes held last c.in-Some.last.now entry) in
    let within : last < length held = slice_get_within held last c.in-Some.last.now entry in
    let count = length-entries_of bytes held in
    label_after_last_is_after_all es read c.args.label.now first last (length held) ascending (sym count)
    (omega (arith, count, within)) there (sym c.order.ensures ∙ c.in-Less.is)
