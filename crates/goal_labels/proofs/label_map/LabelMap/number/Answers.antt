use Rattle.std.proofs.Common.{◌≡◌}
use Rattle.goal_labels.proofs.EntryLemmas.{lookup-there}
use Rattle.goal_labels.proofs.label_map.LabelMap.number.Goals as goal

pub returns-in-Some-clause-new : goal.returns-in-Some-clause-new
returns-in-Some-clause-new c = λ none.
    let known = c.in-Some.ensures in
    let there = lookup-there c.find_near.new.self c.args.label.now c.in-Some.i known.found.0 known.unique known.found.1 in
    let kept : c.find_near.new.self ≡ c.args.self.now = known.kept in
    absurd cc
