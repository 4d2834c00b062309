use Rattle.std.proofs.Common.{refl}
use Rattle.goal_labels.specs.declared.numbers.LabelNumbers.{LabelNumbers}
use Rattle.goal_labels.proofs.NumberLemmas.{number_after_hashed_insert, number_after_ordered_insert}
use Rattle.goal_labels.proofs.numbers.LabelNumbers.insert.Goals as goal

pub returns-in_ok-insert-clause-numbered : goal.returns-in_ok-insert-clause-numbered
returns-in_ok-insert-clause-numbered c =
    let old = c.args.self.now in
    let new : LabelNumbers = record { hashed = c.insert.new.self; ordered = old.ordered } in
    number_after_hashed_insert old new c.of.result c.args.label.now c.args.number c.of.ensures refl c.in_ok-insert.ensures.updates.0

pub returns-in_ok-insert-2-clause-numbered : goal.returns-in_ok-insert-2-clause-numbered
returns-in_ok-insert-2-clause-numbered c =
    let old = c.args.self.now in
    let of = c.of-else-len-lt-MOST_HASHED in
    let new : LabelNumbers = record { hashed = old.hashed; ordered = c.insert-else-len-lt-MOST_HASHED.new.self } in
    number_after_ordered_insert old new of.result c.args.label.now c.args.number of.ensures refl c.requires.absent c.in_ok-insert-2.ensures.updates.0
