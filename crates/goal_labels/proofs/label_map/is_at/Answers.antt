use Rattle.std.proofs.Common.{◌≡◌, ◌≢◌, ◌⊎◌, ◌∙◌, sym, ap, refl, inl, inr, true, false, Some, List, ℕ, length, bytes_eq, eqb, slice_get}
use Rattle.std.proofs.lemmas.Option.{slice_get_read, slice_get_past}
use Rattle.std.proofs.lemmas.Bool.Decides.{eqb_tells}
use Rattle.goal_labels.proofs.HeldLemmas.{is_at-entry, is_at_false_for_other_length, is_at_false_past_end}
use Rattle.goal_labels.proofs.label_map.is_at.Goals as goal

pub returns-then-entry-label : goal.returns-then-entry-label
returns-then-entry-label c =
    let e = c.in-Some.entry.now in
    let there : slice_get c.args.entries.now c.args.i ≡ Some e = slice_get_read c.args.entries.now _ c.args.i e refl c.in-Some.ensures.lookup.3.0 c.in-Some.ensures.lookup.1 in
    c.are_same.ensures ∙ ap (λ (k : List ℕ). bytes_eq k c.args.label.now) c.label_of.ensures ∙ sym (is_at-entry c.args.bytes.now c.args.entries.now c.args.label.now c.args.i e there)

pub returns-else-entry-label : goal.returns-else-entry-label
returns-else-entry-label c =
    let e = c.in-Some.entry.now in
    let there : slice_get c.args.entries.now c.args.i ≡ Some e = slice_get_read c.args.entries.now _ c.args.i e refl c.in-Some.ensures.lookup.3.0 c.in-Some.ensures.lookup.1 in
    differ e.len (length c.args.label.now) c.if-entry-label.false
    ∙ sym (is_at_false_for_other_length c.args.bytes.now c.args.entries.now c.args.label.now c.args.i e there (c.requires.held c.args.i e there) c.if-entry-label.false)
  where
    differ : (m n : ℕ) → m ≢ n → eqb m n ≡ false
    differ m n other = by (eqb_tells m n)
      where
        by : ((eqb m n ≡ true) × (m ≡ n)) ⊎ ((eqb m n ≡ false) × (m ≢ n)) → eqb m n ≡ false
        by (inl told) = absurd (other told.1)
        by (inr told) = told.0

pub returns-in-None : goal.returns-in-None
returns-in-None c =
    sym (is_at_false_past_end c.args.bytes.now c.args.entries.now c.args.label.now c.args.i (slice_get_past c.args.entries.now c.args.i c.in-None.ensures.lookup.3))
