use Rattle.std.proofs.Common.{arith, subst, length}
use Rattle.goal_labels.specs.Entries.{entries_of}
use Rattle.goal_labels.specs.Ordered.{AreAscending}
use Rattle.goal_labels.proofs.HeldLemmas.{length-entries_of}
use Rattle.goal_labels.proofs.IndexLemmas.{find-absent}
use Rattle.goal_labels.proofs.OrderedLemmas.{label_after_all_is_none_of_them}
use Rattle.goal_labels.proofs.label_map.find.Goals as goal

pub search-requires-clause-within : goal.search-requires-clause-within
search-requires-clause-within c = omega (arith, c.requires.map.within, length-entries_of c.args.bytes.now c.args.entries.now)

pub returns-in-None-clause-absent : goal.returns-in-None-clause-absent
returns-in-None-clause-absent c =
    let es = entries_of c.args.bytes.now c.args.entries.now in
    find-absent es c.args.first c.args.ascending c.args.numbers.now c.args.label.now c.requires.map c.in-None.ensures.absent c.get-in-None.result c.get-in-None.ensures

pub returns-then-comes_after_last-clause-absent : goal.returns-then-comes_after_last-clause-absent
returns-then-comes_after_last-clause-absent c =
    let es = entries_of c.args.bytes.now c.args.entries.now in
    let label = c.args.label.now in
    let ascend : AreAscending es c.args.first (length c.args.entries.now) =
    subst (AreAscending es c.args.first) c.if-ascending-entries.true c.requires.map.ascend in
    let before = c.comes_after_last.ensures c.if-comes_after_last.true c.args.first ascend in
    find-absent es c.args.first c.args.ascending c.args.numbers.now label c.requires.map
    (λ i from below at. label_after_all_is_none_of_them es c.args.first label before i from at) c.get.result c.get.ensures
