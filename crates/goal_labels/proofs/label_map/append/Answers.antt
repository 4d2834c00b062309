use Rattle.std.proofs.Common.{◌≡◌, ◌+◌, ◌++◌, ◌∷◌, [], ℕ, ap, arith, sym, subst, length, Result, Ok, Err, OnOk}
use Rattle.goal_labels.specs.Entries.{Entries, entries_of}
use Rattle.goal_labels.specs.Indexed.{IsMap}
use Rattle.goal_labels.specs.Ordered.{AreBefore}
use Rattle.goal_labels.proofs.HeldLemmas.{entries_of-read, length-entries_of}
use Rattle.goal_labels.proofs.IndexLemmas.{IsMap-joined, IsMap-numbered, absent_has_no_number}
use Rattle.goal_labels.proofs.label_map.append.Goals as goal

pub join_run-requires-clause-before : goal.join_run-requires-clause-before
join_run-requires-clause-before c = λ told.
    let same = entries_of-read c.deref-2.result.now c.args.bytes.now.items c.deref.result.now c.args.entries.now.items c.deref-2.ensures.value c.deref.ensures.value in
    subst (λ (es : Entries). AreBefore es 0 c.args.label.now) (sym same) (c.requires.before told)

pub returns-then-joins-clause-map : goal.returns-then-joins-clause-map
returns-then-joins-clause-map c =
    let bytes = c.args.bytes.now.items in
    let held = c.args.entries.now.items in
    let es = entries_of bytes held in
    let label = c.args.label.now in
    let info = c.args.info in
    let first = c.join_run.new.first in
    let ascending = c.args.ascending.now in
    let numbers = c.join_run.new.numbers in
    let number = c.len-number.result in
    let same = entries_of-read c.deref-2.result.now bytes c.deref.result.now held c.deref-2.ensures.value c.deref.ensures.value in
    let joined = c.in_ok-joins.ensures in
    let count = length-entries_of bytes held in
    let ascending_all : ascending ≡ length es = omega (arith, joined.all c.if-joins.true, ap length c.deref.ensures.value, count) in
    let is : ascending ≡ number = omega (arith, ascending_all, c.len-number.ensures, c.args.entries.now.ok.0, count) in
    let map = subst (λ (ds : Entries). IsMap ds first ascending numbers) same joined.map in
    let before = subst (λ (ds : Entries). AreBefore ds first label) same (joined.before c.if-joins.true) in
    let more = IsMap-joined es label info first ascending numbers map c.requires.absent ascending_all before in
    subst (λ (ds : Entries). IsMap ds first (number + 1) numbers) (sym c.in_ok-hold.ensures.entries)
    (subst (λ (k : ℕ). IsMap (es ++ (label, info) ∷ []) first (k + 1) numbers) is more)

pub insert-requires-clause-absent : goal.insert-requires-clause-absent
insert-requires-clause-absent c =
    let bytes = c.args.bytes.now.items in
    let held = c.args.entries.now.items in
    let same = entries_of-read c.deref-2.result.now bytes c.deref.result.now held c.deref-2.ensures.value c.deref.ensures.value in
    let first = c.join_run.new.first in
    let ascending = c.args.ascending.now in
    let numbers = c.join_run.new.numbers in
    let map = subst (λ (ds : Entries). IsMap ds first ascending numbers) same c.in_ok-joins.ensures.map in
    absent_has_no_number (entries_of bytes held) first ascending numbers c.args.label.now map c.requires.absent

-- two facts about an Ok imply a third
on_ok_both : {A E P Q R : Type 0} (r : Result A E) → (P → Q → R) → OnOk r P → OnOk r Q → OnOk r R
on_ok_both (Ok x) f p q = f p q
on_ok_both (Err e) f p q = tt

pub returns-clause-map : goal.returns-clause-map
returns-clause-map c =
    let bytes = c.args.bytes.now.items in
    let held = c.args.entries.now.items in
    let es = entries_of bytes held in
    let label = c.args.label.now in
    let info = c.args.info in
    let first = c.join_run.new.first in
    let ascending = c.args.ascending.now in
    let numbers = c.join_run.new.numbers in
    let new = c.insert.new.self in
    let number = c.len-number.result in
    let same = entries_of-read c.deref-2.result.now bytes c.deref.result.now held c.deref-2.ensures.value c.deref.ensures.value in
    let map = subst (λ (ds : Entries). IsMap ds first ascending numbers) same c.in_ok-joins.ensures.map in
    let last : number ≡ length es = omega (arith, c.len-number.ensures, c.args.entries.now.ok.0, length-entries_of bytes held) in
    on_ok_both c.insert.result
    (λ gives few.
    subst (λ (ds : Entries). IsMap ds first ascending new) (sym c.in_ok-hold.ensures.entries)
    (IsMap-numbered es label info first ascending numbers map c.requires.absent new number last (few map.few) gives))
    c.insert.ensures.numbered c.insert.ensures.few
