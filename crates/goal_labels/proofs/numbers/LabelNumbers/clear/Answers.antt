use Rattle.goal_labels.proofs.NumberLemmas.{empty_table_numbers_none}
use Rattle.goal_labels.proofs.numbers.LabelNumbers.clear.Goals as goal

pub returns-clause-none : goal.returns-clause-none
returns-clause-none c = empty_table_numbers_none (record { hashed = c.clear.new.self; ordered = c.clear-2.new.self }) c.clear.ensures.empty c.clear-2.ensures.empty
