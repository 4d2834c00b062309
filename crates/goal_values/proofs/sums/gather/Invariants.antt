use Rattle.std.proofs.Common.{ℕ, ◌≡◌, ◌+◌, ◌<◌, ◌++◌, [], All, length}
use Rattle.std.specs.List.{sum_by}
use Rattle.goal_blocks.specs.declared.contribution.Contribution.{Contribution}
use Rattle.goal_values.specs.Sums.{meaning, IsBelow}
use Rattle.goal_values.specs.Parts.{values_of_sums}
use Rattle.goal_values.proofs.Gathering.{weight, weights, shares}
use Rattle.goal_values.proofs.sums.gather.Given as goal

-- what is listed, the left parts of the opened sums and the next part have together what the list and the value had
abbrev pub invariant-parts : goal.invariant-parts
invariant-parts l = record {
  numbers : All (λ (n : ℕ). n < length (values_of_sums [] l.sums)) l.opened.items;
  below : IsBelow (length (values_of_sums [] l.sums)) l.part;
  same : (f : Contribution → ℕ) → sum_by f l.list.items + shares l.sums f l.opened.items + sum_by f (meaning (values_of_sums [] l.sums) l.part) ≡ sum_by f (l.fn.list.items ++ meaning (values_of_sums [] l.sums) l.fn.term);
}

abbrev pub decreases-parts : goal.decreases-parts
decreases-parts l = weights l.sums l.opened.items + weight (values_of_sums [] l.sums) l.part
