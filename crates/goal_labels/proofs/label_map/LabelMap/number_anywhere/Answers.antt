use Rattle.std.proofs.Common.{◌∙◌, ap, arith, length}
use Rattle.goal_labels.proofs.EntryLemmas.{lookup-there, lookup-absent, put-absent, IsAt-added}
use Rattle.goal_labels.proofs.HeldLemmas.{length-entries_of}
use Rattle.goal_labels.proofs.label_map.LabelMap.number_anywhere.Goals as goal

pub returns-in-Some-clause-new : goal.returns-in-Some-clause-new
returns-in-Some-clause-new c = λ none.
    let there = lookup-there c.args.self.now c.args.label.now c.in-Some.i c.in-Some.ensures.found.0 c.in-Some.ensures.unique c.in-Some.ensures.found.1 in
    absurd cc

pub returns-clause-old : goal.returns-clause-old
returns-clause-old c = λ there is.
    let none = lookup-absent c.args.self.now c.args.label.now c.in_default.ensures.absent in
    absurd cc

pub returns-clause-new : goal.returns-clause-new
returns-clause-new c = λ none. c.in_ok-add.ensures ∙ put-absent c.args.self.now c.args.label.now c.args.info c.in_default.ensures.absent

pub returns-clause-number : goal.returns-clause-number
returns-clause-number c =
    let map = c.self in
    let held = map.inside.entries in
    let count = length-entries_of map.inside.bytes.items held.items in
    IsAt-added c.args.self.now c.add.new.self c.args.label.now c.args.info c.len-number.result c.in_ok-add.ensures
    (omega (arith, c.len-number.ensures, held.ok.0, count, ap length map.view_is))
