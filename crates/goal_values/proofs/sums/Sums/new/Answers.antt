use Rattle.std.proofs.Common.{sym, subst, ap}
use Rattle.goal_values.specs.Parts.{values_of_sums, AreSums}
use Rattle.goal_values.proofs.SumValues.{are_sums_of_empty}
use Rattle.goal_values.proofs.sums.Sums.new.Goals as goal

pub invariant_of-result : goal.invariant_of-result
invariant_of-result c = subst AreSums (sym c.new.ensures.items) are_sums_of_empty

pub returns : goal.returns
unfolding values_of_sums
returns c = ap (values_of_sums _) c.new.ensures.items
