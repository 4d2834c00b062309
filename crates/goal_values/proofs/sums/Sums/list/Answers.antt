use Rattle.std.proofs.Common.{◌∙◌}
use Rattle.std.proofs.lemmas.List.Sorted.{sum_by-IsPermutation}
use Rattle.goal_values.proofs.SumValues.{values_of_sums_are_sorted, meaning_sorted}
use Rattle.goal_values.proofs.Listed.{same_sorted, sorted_from_neighbours}
use Rattle.goal_values.proofs.sums.Sums.list.Goals as goal

pub returns-clause-list : goal.returns-clause-list
returns-clause-list c =
    let h = c.in_ok-sort.ensures.sorted in
    same_sorted c.sort.new.self.items _ (sorted_from_neighbours c.sort.new.self.items h) (meaning_sorted c.args.self.now c.args.term (values_of_sums_are_sorted c.self.inside.list.items c.self.invariant c.args.self.now c.self.view_is)) (λ f. sum_by-IsPermutation f _ _ c.sort.ensures.permutation ∙ c.in_ok-list.ensures f)

pub returns-clause-sorted : goal.returns-clause-sorted
returns-clause-sorted c = sorted_from_neighbours c.sort.new.self.items c.in_ok-sort.ensures.sorted
