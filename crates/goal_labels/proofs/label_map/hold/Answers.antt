use Rattle.std.proofs.Common.{◌≡◌, ◌∙◌, sym, ap, subst, arith, refl, length, ◌++◌, ◌∷◌, [], List, ℕ}
use Rattle.goal_labels.specs.declared.label_map.LabelEntry.{LabelEntry}
use Rattle.goal_labels.specs.Entries.{AreHeld, entries_of}
use Rattle.goal_labels.proofs.HeldLemmas.{entries_of-more, AreHeld-more}
use Rattle.goal_labels.proofs.label_map.hold.Goals as goal

pub returns-clause-entries : goal.returns-clause-entries
returns-clause-entries c =
    let bytes = c.args.bytes.now.items in
    let label = c.args.label.now in
    let es = c.args.entries.now.items in
    let e : LabelEntry = record { info = c.args.info; from = c.in-Ok.from; len = length label } in
    let from : e.from ≡ length bytes = omega (arith, c.in-Ok.ensures.1, c.len.ensures, c.args.bytes.now.ok.0) in
    ap (λ (bs : List ℕ). entries_of bs c.push.new.self.items) c.in_ok-extend_from_slice.ensures.items
    ∙ ap (entries_of (bytes ++ label)) c.in_ok-push.ensures.items
    ∙ entries_of-more bytes label es e from refl c.requires.held

pub returns-clause-held : goal.returns-clause-held
returns-clause-held c =
    let bytes = c.args.bytes.now.items in
    let label = c.args.label.now in
    let es = c.args.entries.now.items in
    let e : LabelEntry = record { info = c.args.info; from = c.in-Ok.from; len = length label } in
    let from : e.from ≡ length bytes = omega (arith, c.in-Ok.ensures.1, c.len.ensures, c.args.bytes.now.ok.0) in
    let more : AreHeld (bytes ++ label) (es ++ e ∷ []) =
    AreHeld-more bytes label es e from refl c.requires.some c.requires.short c.requires.held in
    subst (λ (ds : List LabelEntry). AreHeld c.extend_from_slice.new.self.items ds) (sym c.in_ok-push.ensures.items)
    (subst (λ bs. AreHeld bs (es ++ e ∷ [])) (sym c.in_ok-extend_from_slice.ensures.items) more)
