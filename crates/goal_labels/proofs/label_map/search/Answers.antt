use Rattle.std.proofs.Common.{◌≡◌, ◌∙◌, ℕ, ◌+◌, ◌-◌, ◌/◌, ◌<◌, ◌≤◌, arith, sym, subst, Less}
use Rattle.std.proofs.lemmas.Option.{slice_get-get_or}
use Rattle.goal_labels.specs.Entries.{entries_of, IsAt}
use Rattle.goal_labels.specs.Ordered.{label_cmp}
use Rattle.goal_labels.proofs.HeldLemmas.{read_label_has_entry}
use Rattle.goal_labels.proofs.OrderedLemmas.{label_cmp_greater_is_less_swapped, label_cmp-tied, lesser_label_has_lesser_number}
use Rattle.goal_labels.proofs.label_map.search.Goals as goal

-- the middle is among the entries
middle_within : (low high count : ℕ) → low < high → high ≤ count → low + (high - low) / 2 < count
middle_within low high count some within = omega (arith, some, within)

pub loop-low-init : goal.loop-low-init
loop-low-init c = record { from = omega arith; within = omega arith; among = λ i from below at. (from, below) }

pub label_of-requires : goal.label_of-requires
label_of-requires c =
    let held = c.args.entries.now in
    let within = middle_within c.loop-low.low c.loop-low.high c.args.ascending c.loop-low-test.true c.loop-low.invariant.within in
    record { held = c.requires.held _ _ (slice_get-get_or held _ _ (omega (arith, within, c.requires.within))) }

pub loop-low-preserved-in-Less : goal.loop-low-preserved-in-Less
loop-low-preserved-in-Less c =
    let held = c.args.entries.now in
    let es = entries_of c.args.bytes.now held in
    let label = c.args.label.now in
    let read = c.label_of.result.now in
    let middle = c.loop-low.low + (c.loop-low.high - c.loop-low.low) / 2 in
    let within = middle_within c.loop-low.low c.loop-low.high c.args.ascending c.loop-low-test.true c.loop-low.invariant.within in
    let there : IsAt es read middle =
    read_label_has_entry c.args.bytes.now held middle read _ (omega (arith, within, c.requires.within)) c.label_of.ensures in
    let less : label_cmp read label ≡ Less = sym c.order.ensures ∙ c.in-Less.is in
    record {
      from = omega (arith, c.loop-low.invariant.from);
      within = c.loop-low.invariant.within;
      among = λ i from below at. (
        omega (arith, lesser_label_has_lesser_number es read label c.args.first middle i c.args.ascending c.requires.ascending from within there at less),
        (c.loop-low.invariant.among i from below at).1,
      );
    }

pub returns-in-Equal-clause-found : goal.returns-in-Equal-clause-found
returns-in-Equal-clause-found c =
    let held = c.args.entries.now in
    let es = entries_of c.args.bytes.now held in
    let read = c.label_of.result.now in
    let middle = c.loop-low.low + (c.loop-low.high - c.loop-low.low) / 2 in
    let within = middle_within c.loop-low.low c.loop-low.high c.args.ascending c.loop-low-test.true c.loop-low.invariant.within in
    let there : IsAt es read middle =
    read_label_has_entry c.args.bytes.now held middle read _ (omega (arith, within, c.requires.within)) c.label_of.ensures in
    subst (λ k. IsAt es k middle) (label_cmp-tied read c.args.label.now (sym c.order.ensures ∙ c.in-Equal.is)) there

pub loop-low-preserved : goal.loop-low-preserved
loop-low-preserved c =
    let held = c.args.entries.now in
    let es = entries_of c.args.bytes.now held in
    let label = c.args.label.now in
    let read = c.label_of.result.now in
    let middle = c.loop-low.low + (c.loop-low.high - c.loop-low.low) / 2 in
    let within = middle_within c.loop-low.low c.loop-low.high c.args.ascending c.loop-low-test.true c.loop-low.invariant.within in
    let there : IsAt es read middle =
    read_label_has_entry c.args.bytes.now held middle read _ (omega (arith, within, c.requires.within)) c.label_of.ensures in
    let less : label_cmp label read ≡ Less = label_cmp_greater_is_less_swapped read label (sym c.order.ensures ∙ c.in-Greater.is) in
    record {
      from = c.loop-low.invariant.from;
      within = omega (arith, within);
      among = λ i from below at. (
        (c.loop-low.invariant.among i from below at).0,
        lesser_label_has_lesser_number es label read c.args.first i middle c.args.ascending c.requires.ascending (omega (arith, c.loop-low.invariant.from)) below at there less,
      );
    }

pub returns-clause-absent : goal.returns-clause-absent
returns-clause-absent c = λ i from below at.
    let found = c.loop-low.invariant.among i from below at in
    absurd (omega (arith, c.loop-low-test.false, found.0, found.1))
