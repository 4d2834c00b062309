use Rattle.std.proofs.Common.{Some, None}
use Rattle.goal_labels.proofs.NumberLemmas.{hashed_number, ordered_number}
use Rattle.goal_labels.proofs.numbers.LabelNumbers.get.Goals as goal

pub returns-in-Some : goal.returns-in-Some
returns-in-Some c = hashed_number c.args.self.now c.of.result c.args.label.now c.of.ensures c.in-Some.number.now c.in-Some.ensures.value

pub returns-in-Some-get : goal.returns-in-Some-get
returns-in-Some-get c =
    ordered_number c.args.self.now c.of.result c.of-2.result c.args.label.now c.of.ensures c.of-2.ensures c.in_default.ensures.value
    (Some c.in-Some-get.number.now) c.in-Some-get.ensures.value

pub returns-in-None : goal.returns-in-None
returns-in-None c =
    ordered_number c.args.self.now c.of.result c.of-2.result c.args.label.now c.of.ensures c.of-2.ensures c.in_default.ensures.value
    None c.in-None.ensures.value
