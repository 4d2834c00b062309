use Rattle.goal_labels.proofs.NumberLemmas.{empty_table_numbers_none}
use Rattle.goal_labels.proofs.numbers.LabelNumbers.new.Goals as goal

pub returns-clause-none : goal.returns-clause-none
returns-clause-none c = empty_table_numbers_none (record { hashed = c.new.result; ordered = c.new-2.result }) c.new.ensures.empty c.new-2.ensures.empty
