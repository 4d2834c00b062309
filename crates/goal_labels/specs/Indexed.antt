-- How a label is found among the entries.
use Rattle.std.specs.Prelude.{◌≡◌, ℕ, ◌<◌, ◌≤◌, List, Some, length}
use Rattle.goal_labels.specs.declared.numbers.LabelNumbers.{LabelNumbers}
use Rattle.goal_labels.specs.Entries.{Entries, IsAt, AreUnique}
use Rattle.goal_labels.specs.Numbers.{number_of, AreFew}
use Rattle.goal_labels.specs.Ordered.{AreAscending}

-- The invariant of a map of labels. The labels from `first` to before `ascending`, called the run, ascend. `numbers`
-- has every label outside the run and none inside. Each label has one entry.
pub record IsMap (entries : Entries) (first ascending : ℕ) (numbers : LabelNumbers) : Type 0 where
  pub begins : first ≤ ascending
  pub within : ascending ≤ length entries
  pub ascend : AreAscending entries first ascending
  pub numbered_before : (i : ℕ) (label : List ℕ) → i < first → IsAt entries label i → number_of numbers label ≡ Some i
  pub numbered_after : (i : ℕ) (label : List ℕ) → ascending ≤ i → IsAt entries label i → number_of numbers label ≡ Some i
  pub there : (i : ℕ) (label : List ℕ) → number_of numbers label ≡ Some i → IsAt entries label i
  pub apart : (i : ℕ) (label : List ℕ) → number_of numbers label ≡ Some i → first ≤ i → ascending ≤ i
  pub few : AreFew numbers
  pub unique : AreUnique entries
