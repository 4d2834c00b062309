use Rattle.std.proofs.Common.{◌≡◌, ◌∙◌, ℕ, sym, subst, ap, arith, length}
use Rattle.std.proofs.lemmas.Bool.{eqb-true}
use Rattle.goal_labels.specs.Entries.{Entries, entries_of}
use Rattle.goal_labels.specs.Ordered.{AreAscending, AreBefore}
use Rattle.goal_labels.proofs.HeldLemmas.{entries_of-read}
use Rattle.goal_labels.proofs.label_map.LabelMap.comes_after_all.Goals as goal
use Rattle.goal_labels.proofs.label_map.LabelMap.comes_after_all.Goals.{then-self-eq0, else-self-eq0}

pub returns-then-self-len : goal.returns-then-self-len
returns-then-self-len c = λ told.
    let bytes = c.self.inside.bytes.items in
    let held = c.self.inside.entries.items in
    let first = c.self.inside.first in
    let ascending = c.self.inside.ascending in
    let seen = c.deref.result.now in
    let same = entries_of-read c.deref-then-self-len.result.now bytes seen held c.deref-then-self-len.ensures.value c.deref.ensures.value in
    let ascend : AreAscending (entries_of c.deref-then-self-len.result.now seen) first ascending =
    subst (λ (es : Entries). AreAscending es first ascending) (sym same) c.self.invariant.1.ascend in
    let after : (zero : first ≡ 0) → (all : ascending ≡ length seen) → AreBefore c.args.self.now 0 c.args.label.now =
    λ zero all.
    let from_zero = subst (λ (n : ℕ). AreAscending (entries_of c.deref-then-self-len.result.now seen) n ascending) zero ascend in
    let whole = subst (AreAscending (entries_of c.deref-then-self-len.result.now seen) 0) all from_zero in
    subst (λ (es : Entries). AreBefore es 0 c.args.label.now) (same ∙ c.self.view_is) (c.comes_after_last.ensures told 0 whole) in
    elim c.if-self-eq0.branch [
      | then-self-eq0 w ↦
          let all : ascending ≡ w.len.result = eqb-true ascending w.len.result (sym w.value-is ∙ c.if-self-len.true) in
          after w.if-self-eq0.true (omega (arith, all, w.len.ensures, c.self.inside.entries.ok.0, ap length c.deref.ensures.value))
      | else-self-eq0 w ↦ absurd (w.if-self-eq0.false (eqb-true first 0 (sym w.value-is ∙ c.if-self-len.true)))
    ]
