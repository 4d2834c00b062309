use Rattle.std.proofs.Common.{sym, ◌∙◌}
use Rattle.goal_values.proofs.Keeping.{value_of_found_term, first_value_without_term, found_term_is_below}
use Rattle.goal_values.proofs.values.SlotValues.term_at.Goals as goal

pub returns-in-Some-clause-value : goal.returns-in-Some-clause-value
returns-in-Some-clause-value c = value_of_found_term c.self.inside.what c.self.inside.ranks c.self.inside.segment c.self.inside.sums c.self.inside.written c.args.self.now c.self.view_is c.args.rank c.args.slot c.in-Some.term (sym c.in-Some.is ∙ c.get.ensures)

pub returns-in-Some-clause-below : goal.returns-in-Some-clause-below
returns-in-Some-clause-below c =
    found_term_is_below c.self.inside.what c.self.inside.ranks c.self.inside.segment c.self.inside.sums c.self.inside.written c.args.self.now c.self.view_is c.self.inside.held c.self.invariant c.args.rank c.args.slot c.in-Some.term (sym c.in-Some.is ∙ c.get.ensures)

pub returns-in-None-clause-value : goal.returns-in-None-clause-value
returns-in-None-clause-value c =
    first_value_without_term c.self.inside.what c.self.inside.ranks c.self.inside.segment c.self.inside.sums c.self.inside.written c.args.self.now c.self.view_is c.args.rank c.args.slot _ (sym c.in-None.is ∙ c.get.ensures) (c.first_at.ensures.value _)

pub returns-in-None-clause-below : goal.returns-in-None-clause-below
returns-in-None-clause-below c = c.first_at.ensures.below _
